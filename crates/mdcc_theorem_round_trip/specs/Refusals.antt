-- Why a line of deliveries to centres that are up is refused.
use Rattle.std.specs.List.{AllByRecursion}
use Rattle.std.specs.Prelude.{Err, List, None, true, ℕ, ◌≡◌}
use Rattle.mdcc_def_messages.specs.declared.messages.Envelope.{Envelope}
use Rattle.mdcc_def_language.specs.declared.events.Event.{Event}
use Rattle.mdcc_def_language.specs.declared.world.EventFault.{EventFault}
use Rattle.mdcc_def_simulation.specs.Events.{after_event}
use Rattle.mdcc_def_simulation.specs.Limits.{is_limit}
use Rattle.mdcc_def_simulation.specs.State.{World, centre_at, is_up_at}
use Rattle.mdcc_theorem_round_trip.specs.RoundTrips.{AreNumbersOf}

-- the message's centre is up and has no armed stop
pub record GoesUp (w : World) (message : Envelope) : Type 0 where
  pub up : is_up_at w message.to ≡ true
  pub unstopped : (centre_at w message.to).stop ≡ None

-- then only a limit refuses the line
abbrev pub OnlyLimitsRefuse : Type 0
OnlyLimitsRefuse =
    (w : World) (numbers : List ℕ) (messages : List Envelope) (fault : EventFault)
    → AreNumbersOf w numbers messages → AllByRecursion (GoesUp w) messages
    → after_event w (Event.Deliver numbers) ≡ Err fault → is_limit fault ≡ true
