-- What stands of an event that is refused: the deliveries that came before the one that was refused.
use Rattle.std.specs.Prelude.{Err, List, None, Ok, Some, [], suc, zero, ℕ, ◌-◌, ◌∷◌}
use Rattle.mdcc_def_language.specs.declared.events.Event.{Event}
use Rattle.mdcc_def_language.specs.declared.lines.Line.{Line}
use Rattle.mdcc_def_simulation.specs.State.{World, Happened, after_lines, counted_event}
use Rattle.mdcc_def_simulation.specs.Limits.{most_events}
use Rattle.mdcc_def_simulation.specs.Deliveries.{after_message, after_delivery, first_waiting}

-- the deliveries of a line before the first that is refused
abbrev pub deliveries_before : List ℕ → Happened → Happened
deliveries_before [] h = h
deliveries_before (number ∷ numbers) h =
    elim (after_delivery h.world number) [
      | Err fault ↦ h
      | Ok next ↦ deliveries_before numbers (after_lines h.lines next)
    ]

-- the deliveries of a settle before the first that is refused
abbrev pub settled_before : ℕ → List ℕ → Happened → Happened
settled_before zero listed h = h
settled_before (suc left) listed h =
    elim (first_waiting h.world listed 1 h.world.sent) [
      | None ↦ h
      | Some next ↦ elim (after_message h.world next.0 next.1) [
        | Err fault ↦ h
        | Ok after ↦ settled_before left listed (after_lines h.lines after)
      ]
    ]

-- nothing, but for the deliveries that came before the one that was refused, and their lines. A report has none of
-- them, since it tells nothing of a line that is refused
abbrev pub left_of : World → Event → Happened
left_of w (Event.Deliver numbers) = deliveries_before numbers (record { world = w; lines = [] })
left_of w (Event.Settle listed) =
    settled_before (most_events - (counted_event w).events) listed (record { world = counted_event w; lines = Line.Settle listed ∷ [] })
left_of w event = record { world = w; lines = [] }
