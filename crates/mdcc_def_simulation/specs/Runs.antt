-- A whole schedule: its events in turn, up to the first that is refused, and the line that counts the outcomes.
use Rattle.std.specs.Prelude.{Bool, Err, List, None, Ok, Option, Some, [], false, is_some, length, map, not, ◌∷◌}
use Rattle.mdcc_base.specs.Counts.{number_of}
use Rattle.mdcc_option.specs.declared.choices.Outcome.{Outcome}
use Rattle.mdcc_def_ledger.specs.Ledger.{outcome_of, txs_begun}
use Rattle.mdcc_def_protocol.specs.Marks.{is_abort, is_commit}
use Rattle.mdcc_def_language.specs.declared.events.Event.{Event}
use Rattle.mdcc_def_language.specs.declared.lines.Line.{Line}
use Rattle.mdcc_def_language.specs.declared.world.EventFault.{EventFault}
use Rattle.mdcc_def_simulation.specs.State.{World, Happened, after_lines}
use Rattle.mdcc_def_simulation.specs.Events.{after_event}

-- the outcomes of all begun transactions
abbrev pub outcomes_of : World → List (Option Outcome)
outcomes_of w = map (outcome_of w.cluster.quorums w.ledger) (txs_begun w.ledger)

abbrev pub is_commit_found : Option Outcome → Bool
is_commit_found (Some outcome) = is_commit outcome
is_commit_found None = false

-- the last line counts them
abbrev pub end_line : World → Line
end_line w =
    let outcomes = outcomes_of w in
    Line.End w.events (length w.sent) (number_of is_commit_found outcomes) (number_of is_abort outcomes) (number_of (λ o. not (is_some o)) outcomes)

-- the events in turn, up to the first that is refused: the world, the lines so far, and why it ends early
pub record Run : Type 0 where
  pub world : World
  pub lines : List Line
  pub fault : Option EventFault

abbrev pub run_from : List Event → Happened → Run
run_from [] h = record { world = h.world; lines = h.lines; fault = None }
run_from (event ∷ events) h =
    elim (after_event h.world event) [
      | Err fault ↦ record { world = h.world; lines = h.lines; fault = Some fault }
      | Ok next ↦ run_from events (after_lines h.lines next)
    ]

abbrev pub run_of : World → List Event → Run
run_of w events = run_from events (record { world = w; lines = [] })
