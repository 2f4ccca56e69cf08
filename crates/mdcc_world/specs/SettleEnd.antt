-- How a settle ends.
use Rattle.std.specs.Bool.{OnFalse}
use Rattle.std.specs.List.{list_any}
use Rattle.std.specs.Option.{option_map}
use Rattle.std.specs.Prelude.{◌≡◌, ◌-◌, ◌==◌, ◌&&◌, ◌||◌, Bool, Err, List, Ok, Option, Result, length, ℕ}
use Rattle.mdcc_def_simulation.specs.State.{Happened, World, counted_event, is_up_at}
use Rattle.mdcc_def_simulation.specs.Deliveries.{first_waiting}
use Rattle.mdcc_def_simulation.specs.Events.{after_event}
use Rattle.mdcc_def_simulation.specs.Left.{settled_before}
use Rattle.mdcc_def_simulation.specs.Limits.{most_events, is_out_of_memory}
use Rattle.mdcc_def_language.specs.declared.events.Event.{Event}
use Rattle.mdcc_def_language.specs.declared.lines.Line.{Line}
use Rattle.mdcc_def_language.specs.declared.world.EventFault.{EventFault}
use Rattle.mdcc_world.specs.Represents.{HasHappened}
use Rattle.mdcc_world.specs.declared.world.World.{World as TheWorld}
use Rattle.mdcc_theorem_worlds.specs.SettleProgress.{IsSettling, settle_reported, settle_ended}

-- whether a centre is listed, where some are
abbrev pub is_listed_centre : List ℕ → ℕ → Bool
is_listed_centre listed a = length listed == 0 || list_any (λ centre. centre == a) listed

-- the centres are those that are up and, where some are listed, among them
abbrev pub AreAsked : World → List ℕ → List ℕ → Type 0
AreAsked w listed centres =
    (a : ℕ) → list_any (λ centre. centre == a) centres ≡ (is_up_at w a && (length listed == 0 || list_any (λ centre. centre == a) listed))

-- the world stands for what a settle line has brought with so many deliveries
pub record HasSettled (world : TheWorld) (before after : List Line) (w : World) (listed : List ℕ) (deliveries : ℕ) : Type 0 where
  pub reached : Happened
  pub happened : HasHappened world before after reached
  pub so_far : IsSettling w listed reached deliveries
  pub first : settled_before deliveries listed (settle_reported w listed) ≡ reached
  pub earlier : settled_before (most_events - (counted_event w).events) listed (settle_reported w listed) ≡ settled_before (most_events - reached.world.events) listed reached

-- the number is that of the message that a settle delivers next, where one waits
abbrev pub IsNext : World → List ℕ → Option ℕ → Type 0
IsNext w listed number = option_map (λ next. next.0) (first_waiting w listed 1 w.sent) ≡ number

-- so many messages were delivered until none waited, and the settle is at its end
pub record EndsAfter (world : TheWorld) (before after : List Line) (w : World) (listed : List ℕ) (deliveries : ℕ) : Type 0 where
  pub reached : Happened
  pub happened : HasHappened world before after reached
  pub so_far : IsSettling w listed reached deliveries
  pub answer : after_event w (Event.Settle listed) ≡ Ok (settle_ended reached deliveries)
  pub first : settled_before deliveries listed (settle_reported w listed) ≡ reached

-- so a settle ends, by how many messages it delivered, or it is refused as the line is to be
abbrev pub SettlesTo : TheWorld → List Line → List Line → World → List ℕ → Result ℕ EventFault → Type 0
SettlesTo world before after w listed (Ok deliveries) = EndsAfter world before after w listed deliveries
SettlesTo world before after w listed (Err fault) = OnFalse (is_out_of_memory fault) (after_event w (Event.Settle listed) ≡ Err fault)
