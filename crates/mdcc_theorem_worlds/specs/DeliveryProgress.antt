-- What a delivery does, why a message is not delivered, and how far a deliver line has come.
use Rattle.std.specs.Prelude.{◌≡◌, Err, List, None, Ok, Option, Result, Some, [], if◌then◌else◌, ℕ, ◌+◌, ◌-◌, ◌∷◌}
use Rattle.mdcc_def_simulation.specs.State.{Happened, World, after_lines, is_up_at}
use Rattle.mdcc_def_messages.specs.Mailbox.{Sent, numbered, with_delivered}
use Rattle.mdcc_def_simulation.specs.Deliveries.{deliver_line, after_message, after_deliveries, after_delivery}
use Rattle.mdcc_def_simulation.specs.Left.{deliveries_before}
use Rattle.mdcc_def_simulation.specs.Events.{after_event}
use Rattle.mdcc_def_simulation.specs.Limits.{with_lines}
use Rattle.mdcc_def_language.specs.declared.events.Event.{Event}
use Rattle.mdcc_def_language.specs.declared.world.EventFault.{EventFault}
use Rattle.mdcc_theorem_worlds.specs.EventEffects.{at_limit, if_open}

-- a message counts as delivered, which is an event
abbrev pub message_counted : World → ℕ → World
message_counted w number = record w { sent = with_delivered w.sent (number - 1); events = w.events + 1 }

abbrev pub after_sent_message : World → ℕ → Option Sent → Result Happened EventFault
after_sent_message w number None = Err (EventFault.NoMessage number)
after_sent_message w number (Some sent) = after_message w number sent.envelope

-- what comes of it where the message of a number comes to its centre
abbrev pub after_numbered_message : World → ℕ → Result Happened EventFault
after_numbered_message w number = after_sent_message w number (numbered w.sent number)

-- the same behind its line
abbrev pub delivery_reported : World → ℕ → Result Happened EventFault
delivery_reported w number = with_lines (deliver_line number) (after_numbered_message w number)

-- why the message of a number is not delivered
abbrev pub message_by : World → ℕ → Option Sent → Result (Unit {0}) EventFault
message_by w number None = Err (EventFault.NoMessage number)
message_by w number (Some sent) = if is_up_at w sent.envelope.to then at_limit w else Err (EventFault.Down sent.envelope.to)

abbrev pub at_message : World → ℕ → Result (Unit {0}) EventFault
at_message w number = message_by w number (numbered w.sent number)

-- one number of a deliver line is this
abbrev pub DeliveriesHappen : Type 0
DeliveriesHappen = (w : World) (number : ℕ) → after_delivery w number ≡ if_open (at_message w number) (delivery_reported w number)

-- nothing has happened yet
abbrev pub unmoved : World → Happened
unmoved w = record { world = w; lines = [] }

-- so much of a deliver line has happened that these numbers are left
pub record IsDelivering (w : World) (whole left : List ℕ) (reached : Happened) : Type 0 where
  pub answer : after_deliveries whole (unmoved w) ≡ after_deliveries left reached
  pub rest : deliveries_before whole (unmoved w) ≡ deliveries_before left reached

-- a deliver line begins so
abbrev pub DeliversBegin : Type 0
DeliversBegin = (w : World) (whole : List ℕ) → IsDelivering w whole whole (unmoved w)

-- the message of the next number is delivered
abbrev pub DeliversGoOn : Type 0
DeliversGoOn =
    (w : World) (whole left rest : List ℕ) (number : ℕ) (reached next : Happened) → left ≡ number ∷ rest
    → IsDelivering w whole left reached → after_delivery reached.world number ≡ Ok next
    → IsDelivering w whole rest (after_lines reached.lines next)

-- where no number is left, that is the line
abbrev pub DeliversEnd : Type 0
DeliversEnd =
    (w : World) (whole left : List ℕ) (reached : Happened) → left ≡ [] → IsDelivering w whole left reached
    → (after_event w (Event.Deliver whole) ≡ Ok reached) × (deliveries_before whole (unmoved w) ≡ reached)

-- and a number that is refused refuses the line
abbrev pub DeliversStop : Type 0
DeliversStop =
    (w : World) (whole left rest : List ℕ) (number : ℕ) (reached : Happened) (fault : EventFault) → left ≡ number ∷ rest
    → IsDelivering w whole left reached → after_delivery reached.world number ≡ Err fault
    → (after_event w (Event.Deliver whole) ≡ Err fault) × (deliveries_before whole (unmoved w) ≡ reached)
