-- What stands of the lines of an event in which there was no memory.
use Rattle.std.specs.Prelude.{◌≡◌, ◌≤◌, ◌+◌, ◌++◌, Err, List, Ok, Result, [], suc, take, zero, ℕ}
use Rattle.mdcc_def_language.specs.declared.events.Event.{Event}
use Rattle.mdcc_def_language.specs.declared.lines.Line.{Line}
use Rattle.mdcc_def_language.specs.declared.world.EventFault.{EventFault}
use Rattle.mdcc_def_simulation.specs.Events.{after_event}
use Rattle.mdcc_def_simulation.specs.Left.{deliveries_before, settled_before}
use Rattle.mdcc_def_simulation.specs.State.{Happened, World}
use Rattle.mdcc_world.specs.Limited.{lines_reported}
use Rattle.mdcc_world.specs.declared.world.World.{World as TheWorld}
use Rattle.mdcc_theorem_worlds.specs.DeliveryProgress.{unmoved}
use Rattle.mdcc_theorem_worlds.specs.SettleProgress.{settle_reported}

-- the lines of the first so many of the events that a line counts as: of a deliver line each number is one, of a settle line the line
-- itself and then each delivery; any other line has none but its own, which comes last
abbrev pub first_lines : ℕ → World → Event → List Line
first_lines count w (Event.Deliver numbers) = (deliveries_before (take count numbers) (unmoved w)).lines
first_lines zero w (Event.Settle listed) = []
first_lines (suc deliveries) w (Event.Settle listed) = (settled_before deliveries listed (settle_reported w listed)).lines
first_lines count w event = []

-- all lines of an event: of one that is refused those that stand
abbrev pub lines_by : Result Happened EventFault → List Line → List Line
lines_by (Ok h) left = h.lines
lines_by (Err fault) left = left

abbrev pub event_lines_of : World → Event → List Line
event_lines_of w event = lines_by (after_event w event) (lines_reported w event)

-- The lines of so many of its events stand, which are a prefix of all its lines. The world has counted at most one event more.
pub record IsCutShort (world : TheWorld) (before after : List Line) (w : World) (event : Event) : Type 0 where
  pub count : ℕ
  pub counted : world.events ≤ w.events + count + 1
  pub lines : after ≡ before ++ first_lines count w event
  pub rest : List Line
  pub whole : event_lines_of w event ≡ first_lines count w event ++ rest
