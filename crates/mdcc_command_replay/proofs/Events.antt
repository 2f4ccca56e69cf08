-- What an event adds to a replay.
use Rattle.std.proofs.Common.{◌≡◌, ◌+◌, ◌∷◌, List, ℕ, Option, Some, Result, Ok, Err, IsOkAnd, sym, ap, subst}
use Rattle.std.specs.Io.KnownBytes.{Appends}
use Rattle.mdcc_option.specs.declared.cluster.Cluster.{Cluster}
use Rattle.mdcc_def_simulation.specs.Replay.{after_text, lines_replayed}
use Rattle.mdcc_def_language.specs.Report.{lines_text}
use Rattle.mdcc_def_language.specs.Schedule.{line_of}
use Rattle.mdcc_def_simulation.specs.State.{Happened, World}
use Rattle.mdcc_def_simulation.specs.Events.{after_event}
use Rattle.mdcc_def_language.specs.declared.events.Event.{Event}
use Rattle.mdcc_def_language.specs.declared.schedule.SchedFault.{SchedFault}
use Rattle.mdcc_def_language.specs.declared.world.EventFault.{EventFault}
use Rattle.mdcc_command_replay.proofs.Fronts.{front_of_first}
use Rattle.mdcc_command_replay.proofs.Taken.{left_lines}
use Rattle.mdcc_command_replay.specs.Runs.{event_reported, line_reported}
use Rattle.mdcc_command_replay.specs.Writing.{Front, Reached, ReplayedTo}
use Rattle.mdcc_command_replay.specs.declared.refusals.Refusal.{Refusal}
use Rattle.mdcc_command_replay.specs.declared.writing.Failure.{Failure}

-- the text of the lines of what happened, and the world that is left
abbrev pub Happens : (World → Type 0) → List ℕ → Result Happened EventFault → Type 0
Happens is_now text r = IsOkAnd r (λ h. (text ≡ lines_text h.lines) × is_now h.world)

-- they were written
pub event_written : (is_now : World → Type 0) (a b : Option (List ℕ)) (cluster : Cluster) (number : ℕ) (w : World) (lines : List (List ℕ)) (text : List ℕ) (r : Result Happened EventFault)
    → Happens is_now text r → Appends a b text → Reached is_now a b (event_reported cluster number w lines r) (left_lines cluster (number + 1) lines)
event_written is_now a b cluster number w lines text (Ok h) p wrote = record {
  world = h.world;
  stands = p.1;
  progress = record {
    part = text;
    wrote = wrote;
    same = ap (λ (t : List ℕ). after_text t (lines_replayed cluster (number + 1) h.world lines)) (sym p.0);
  };
}
event_written is_now a b cluster number w lines text (Err fault) p wrote = absurd p

-- a front of it was written
pub event_failed : (is_now : World → Type 0) (a b : Option (List ℕ)) (cluster : Cluster) (number : ℕ) (w : World) (lines : List (List ℕ)) (text : List ℕ) (r : Result Happened EventFault)
    → Happens is_now text r → Front a b text → Front a b (event_reported cluster number w lines r).text
event_failed is_now a b cluster number w lines text (Ok h) p front =
    front_of_first a b (lines_text h.lines) (lines_replayed cluster (number + 1) h.world lines).text (subst (λ (t : List ℕ). Front a b t) p.0 front)
event_failed is_now a b cluster number w lines text (Err fault) p front = absurd p

-- an event that a line says
pub line_happened : (is_now : World → Type 0) (a b : Option (List ℕ)) (cluster : Cluster) (number : ℕ) (w : World) (line : List ℕ) (lines : List (List ℕ)) (event : Event) (r : Result (Option Refusal) Failure)
    → Ok (Some event) ≡ line_of cluster line → ReplayedTo is_now a b (event_reported cluster number w lines (after_event w event)) (left_lines cluster (number + 1) lines) r
    → ReplayedTo is_now a b (lines_replayed cluster number w (line ∷ lines)) (left_lines cluster (number + 1) lines) r
line_happened is_now a b cluster number w line lines event r e h =
    subst (λ (s : Result (Option Event) SchedFault). ReplayedTo is_now a b (line_reported cluster number w lines s) (left_lines cluster (number + 1) lines) r) e h
