-- The statuses of a run, and what it writes on the error stream.
use Rattle.std.specs.Prelude.{◌≡◌, ◌⊎◌, ◌==◌, ◌||◌, Bool, if◌then◌else◌, List, [], ◌∷◌, Option, Some, None, Result, Ok, Err, codes, ℕ, ◌+◌}
use Rattle.std.specs.List.{list_any}
use Rattle.mdcc_def_language.specs.Errors.{AtEvent, AtLine, error_line, error_text, memory_text, status_of}
use Rattle.mdcc_def_simulation.specs.State.{Happened, World}
use Rattle.mdcc_def_simulation.specs.Events.{after_event}
use Rattle.mdcc_def_simulation.specs.Replay.{Replay, after_text, lines_replayed, replay_ended}
use Rattle.mdcc_option.specs.declared.cluster.Cluster.{Cluster}
use Rattle.mdcc_def_language.specs.declared.events.Event.{Event}
use Rattle.mdcc_def_language.specs.declared.schedule.SchedFault.{SchedFault}
use Rattle.mdcc_def_language.specs.declared.world.EventFault.{EventFault}
use Rattle.mdcc_def_language.specs.Report.{lines_text}
use Rattle.mdcc_command_replay.specs.Refusals.{faults_of}
use Rattle.mdcc_command_replay.specs.declared.refusals.Refusal.{Refusal}
use Rattle.mdcc_command_replay.specs.declared.writing.Failure.{Failure}
use Rattle.mdcc_command_replay.specs.declared.writing.Failure.TheVariants.{Output, Memory}

-- ---- lines

-- what an event and the lines behind it add to a replay, by what happened
abbrev pub event_reported : Cluster → ℕ → World → List (List ℕ) → Result Happened EventFault → Replay
event_reported cluster number world lines (Err fault) = replay_ended (Some world) [] (Some (AtEvent number fault))
event_reported cluster number world lines (Ok happened) = after_text (lines_text happened.lines) (lines_replayed cluster (number + 1) happened.world lines)

-- the same for a line, by what it says
abbrev pub line_reported : Cluster → ℕ → World → List (List ℕ) → Result (Option Event) SchedFault → Replay
line_reported cluster number world lines (Err fault) = replay_ended (Some world) [] (Some (AtLine number fault))
line_reported cluster number world lines (Ok None) = lines_replayed cluster (number + 1) world lines
line_reported cluster number world lines (Ok (Some event)) = event_reported cluster number world lines (after_event world event)

-- ---- statuses

-- those that no input has: other words, a read, a write or memory that fails
abbrev pub is_own_status : ℕ → Bool
is_own_status status = status == 2 || (status == 5 || (status == 6 || status == 10))

-- all statuses that there are
abbrev pub is_status : ℕ → Bool
is_status status = list_any (λ s. s == status) (0 ∷ 2 ∷ 3 ∷ 4 ∷ 5 ∷ 6 ∷ 10 ∷ 11 ∷ [])

-- the lines on the error stream of those that no input has
abbrev pub own_line : ℕ → List ℕ
own_line status =
    if status == 2 then error_line (codes "words")
    else (if status == 5 then error_line (codes "input failed")
    else (if status == 6 then error_line (codes "output failed")
    else error_line memory_text))

-- the status behind a replay
abbrev pub IsStatus : Result (Option Refusal) Failure → ℕ → Type 0
IsStatus (Ok refusal) status = (status ≡ status_of (faults_of refusal)) ⊎ (status ≡ 10)
IsStatus (Err Output) status = status ≡ 6
IsStatus (Err Memory) status = status ≡ 10

-- the line of a refusal
abbrev pub refusal_line : Result (Option Refusal) Failure → List ℕ
refusal_line (Ok refusal) = error_text (faults_of refusal)
refusal_line (Err failure) = []
