-- A line of deliveries is the same as two lines, one after the other.
use Rattle.std.specs.Prelude.{Err, List, Ok, Result, ℕ, ◌++◌, ◌≡◌}
use Rattle.mdcc_def_language.specs.declared.events.Event.{Event}
use Rattle.mdcc_def_language.specs.declared.lines.Line.{Line}
use Rattle.mdcc_def_language.specs.declared.world.EventFault.{EventFault}
use Rattle.mdcc_def_simulation.specs.Events.{after_event}
use Rattle.mdcc_def_simulation.specs.State.{Happened, World, after_lines}

-- what a line reports after these lines, unless it is refused
abbrev pub reported_after : List Line → Result Happened EventFault → Result Happened EventFault
reported_after lines (Err fault) = Err fault
reported_after lines (Ok h) = Ok (after_lines lines h)

abbrev pub DeliverLinesSplit : Type 0
DeliverLinesSplit =
    (w : World) (first rest : List ℕ) (reached : Happened) → after_event w (Event.Deliver first) ≡ Ok reached
    → after_event w (Event.Deliver (first ++ rest)) ≡ reported_after reached.lines (after_event reached.world (Event.Deliver rest))
