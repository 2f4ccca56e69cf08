-- A replay: from the bytes of a schedule to those of its report.
use Rattle.std.specs.Prelude.{ℕ, ◌+◌, nat_lt, if◌then◌else◌, List, [], ◌∷◌, ◌++◌, length, Option, Some, None, Result, Ok, Err}
use Rattle.mdcc_option.specs.declared.cluster.Cluster.{Cluster}
use Rattle.mdcc_def_language.specs.declared.schedule.HeaderFault.{HeaderFault}
use Rattle.mdcc_def_language.specs.Errors.{ReplayFault, TooLong, AtHeader, AtLine, AtEvent, most_input, status_of, error_text}
use Rattle.mdcc_def_language.specs.Header.{UnreadLines, all_of, header_lines}
use Rattle.mdcc_def_language.specs.Report.{line_text, lines_text, header_text}
use Rattle.mdcc_def_language.specs.Schedule.{line_of}
use Rattle.mdcc_def_simulation.specs.State.{World, first_world}
use Rattle.mdcc_def_simulation.specs.Events.{after_event}
use Rattle.mdcc_def_simulation.specs.Runs.{end_line}

-- ---- lines in turn

-- what is written, why the input was not read to its end, and the world behind the last line that was not refused
pub record Replay : Type 0 where
  pub text : List ℕ
  pub fault : Option ReplayFault
  pub world : Option World

abbrev pub replay_ended : Option World → List ℕ → Option ReplayFault → Replay
replay_ended world text fault = record { text = text; fault = fault; world = world }

-- a text that is written before
abbrev pub after_text : List ℕ → Replay → Replay
after_text text replay = record replay { text = text ++ replay.text }

-- the lines behind the header, with the number of the first, up to the first that is refused
abbrev pub lines_replayed : Cluster → ℕ → World → List (List ℕ) → Replay
lines_replayed cluster number world [] = replay_ended (Some world) (line_text (end_line world)) None
lines_replayed cluster number world (line ∷ lines) =
    elim (line_of cluster line) [
      | Err fault ↦ replay_ended (Some world) [] (Some (AtLine number fault))
      | Ok None ↦ lines_replayed cluster (number + 1) world lines
      | Ok (Some event) ↦ (elim (after_event world event) [
        | Err fault ↦ replay_ended (Some world) [] (Some (AtEvent number fault))
        | Ok happened ↦ after_text (lines_text happened.lines) (lines_replayed cluster (number + 1) happened.world lines)
      ])
    ]

-- ---- whole inputs

abbrev pub replay_after_header : List ℕ → Result (Cluster × UnreadLines) HeaderFault → Replay
replay_after_header input (Err fault) = replay_ended None [] (Some (AtHeader fault))
replay_after_header input (Ok header) =
    after_text (header_text header.1.at input) (lines_replayed header.0 header.1.number (first_world header.0) header.1.lines)

abbrev pub replay_of : List ℕ → Replay
replay_of input =
    if nat_lt most_input (length input) then replay_ended None [] (Some TooLong)
    else replay_after_header input (header_lines (all_of input))

-- what the program writes and answers
pub record Output : Type 0 where
  pub text : List ℕ
  pub status : ℕ
  pub error : List ℕ

abbrev pub output_of : Replay → Output
output_of replay = record { text = replay.text; status = status_of replay.fault; error = error_text replay.fault }
