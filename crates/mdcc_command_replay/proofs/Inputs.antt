-- What a whole input adds to a replay.
use Rattle.std.proofs.Common.{◌≡◌, ◌≤◌, ◌<◌, [], List, ℕ, Bool, true, false, cond, nat_lt, length, drop, Option, Some, None, Result, Ok, Err, refl, sym, ap, ◌∙◌, subst, arith}
use Rattle.std.specs.Io.KnownBytes.{Appends}
use Rattle.std.proofs.KnownBytes.{Appends-nil}
use Rattle.std.proofs.lemmas.Bool.Decides.{nat_tests}
use Rattle.mdcc_base.specs.AreQuorums.{AreQuorums}
use Rattle.mdcc_option.specs.Bounds.{IsSchema}
use Rattle.mdcc_option.specs.declared.cluster.Cluster.{Cluster}
use Rattle.mdcc_def_language.specs.Errors.{AtHeader, TooLong, most_input}
use Rattle.mdcc_def_language.specs.Header.{UnreadLines, all_of, header_lines}
use Rattle.mdcc_def_language.specs.Words.{◌>>=◌}
use Rattle.mdcc_def_language.specs.declared.schedule.HeaderFault.{HeaderFault}
use Rattle.mdcc_def_protocol.specs.IsCluster.{IsCluster}
use Rattle.mdcc_def_language.specs.Lines.{lines_in}
use Rattle.mdcc_def_simulation.specs.Replay.{Replay, after_text, lines_replayed, replay_after_header, replay_ended, replay_of}
use Rattle.mdcc_def_language.specs.Report.{header_text}
use Rattle.mdcc_def_simulation.specs.State.{World, first_world}
use Rattle.mdcc_sched.specs.Headers.{header_numbered, numbered_header}
use Rattle.mdcc_command_replay.proofs.Fronts.{front_of_first}
use Rattle.mdcc_command_replay.proofs.Headers.{header_given}
use Rattle.mdcc_command_replay.proofs.Taken.{finish}
use Rattle.mdcc_command_replay.specs.Writing.{Ends, Front, ReplayProgress, Replayed, StandsLast}
use Rattle.mdcc_command_replay.specs.declared.refusals.Refusal.{Refusal}
use Rattle.mdcc_command_replay.specs.declared.writing.Failure.{Failure}

-- ---- clusters

pub cluster_given : (text : List ℕ) (cluster : Cluster) (end first : ℕ) → numbered_header text ≡ Ok (cluster, end, first) → AreQuorums cluster.quorums → IsSchema cluster.schema → IsCluster cluster
cluster_given text cluster end first e quorums schema =
    let header = header_given text cluster end first e in
    record { quorums = quorums; schema = schema; range = header.range; some_cells = header.cells.0; cells = header.cells.1 }

-- ---- lengths

not_past : (a b : ℕ) → b ≤ a → nat_lt a b ≡ false
not_past a b h = grind (arith, nat_tests)

past : (a b : ℕ) → a < b → nat_lt a b ≡ true
past a b h = grind (arith, nat_tests)

short_by : (input : List ℕ) → length input ≤ 67108864 → replay_of input ≡ replay_after_header input (header_lines (all_of input))
short_by input h = ap (λ (t : Bool). cond t (replay_ended None [] (Some TooLong)) (replay_after_header input (header_lines (all_of input)))) (not_past most_input (length input) h)

pub long_ended : (a : Option (List ℕ)) (input : List ℕ) → 67108864 < length input → Ends a a (replay_of input) (Some Refusal.TooLong)
long_ended a input h =
    subst (λ (t : Bool). Ends a a (cond t (replay_ended None [] (Some TooLong)) (replay_after_header input (header_lines (all_of input)))) (Some Refusal.TooLong)) (sym (past most_input (length input) h))
    (record { wrote = Appends-nil a; fault = refl })

-- ---- headers

-- the lines behind a header
abbrev pub behind_header : List ℕ → Cluster → ℕ → ℕ → Replay
behind_header input cluster end first = lines_replayed cluster first (first_world cluster) (lines_in (drop end input))

abbrev from_number : Cluster → UnreadLines → ℕ → Replay
from_number cluster left number = lines_replayed cluster number (first_world cluster) left.lines

pub replay_given : (input : List ℕ) (cluster : Cluster) (end first : ℕ) → length input ≤ 67108864 → numbered_header input ≡ Ok (cluster, end, first)
    → replay_of input ≡ after_text (header_text end input) (behind_header input cluster end first)
replay_given input cluster end first h e =
    let header = header_given input cluster end first e in
    let left = header.left in
    short_by input h
    ∙ ap (replay_after_header input) header.read
    ∙ ap (λ (n : ℕ). after_text (header_text left.at input) (from_number cluster left n)) header.number
    ∙ ap (λ (lines : List (List ℕ)). after_text (header_text left.at input) (lines_replayed cluster first (first_world cluster) lines)) header.is_left
    ∙ ap (λ (at : ℕ). after_text (header_text at input) (behind_header input cluster at first)) header.at

pub behind_written : (a b c : Option (List ℕ)) (input : List ℕ) (cluster : Cluster) (end first : ℕ) (r : Result (Option Refusal) Failure) → length input ≤ 67108864 → numbered_header input ≡ Ok (cluster, end, first)
    → Appends a b (header_text end input) → Replayed b c (behind_header input cluster end first) r → Replayed a c (replay_of input) r
behind_written a b c input cluster end first r h e wrote next =
    let progress : ReplayProgress a b (replay_of input) (behind_header input cluster end first) = record { part = header_text end input; wrote = wrote; same = replay_given input cluster end first h e } in
    finish a b c (replay_of input) (behind_header input cluster end first) r progress next

-- the world that is left at the end
pub behind_last : (is_now : World → Type 0) (input : List ℕ) (cluster : Cluster) (end first : ℕ) → length input ≤ 67108864 → numbered_header input ≡ Ok (cluster, end, first)
    → StandsLast is_now (behind_header input cluster end first) → StandsLast is_now (replay_of input)
behind_last is_now input cluster end first h e p =
    record { world = p.world; last = ap (λ (r : Replay). r.world) (replay_given input cluster end first h e) ∙ p.last; stands = p.stands }

pub header_failed : (a b : Option (List ℕ)) (input : List ℕ) (cluster : Cluster) (end first : ℕ) → length input ≤ 67108864 → numbered_header input ≡ Ok (cluster, end, first)
    → Front a b (header_text end input) → Front a b (replay_of input).text
header_failed a b input cluster end first h e front =
    subst (λ (r : Replay). Front a b r.text) (sym (replay_given input cluster end first h e)) (front_of_first a b (header_text end input) (behind_header input cluster end first).text front)

pub header_refused : (a : Option (List ℕ)) (input : List ℕ) (fault : HeaderFault) → length input ≤ 67108864 → Err fault ≡ numbered_header input
    → Ends a a (replay_of input) (Some (Refusal.Header fault))
header_refused a input fault h e = rw (short_by input h) (by (header_lines (all_of input)) e)
  where
    by : (r : Result (Cluster × UnreadLines) HeaderFault) → Err fault ≡ (r >>= header_numbered)
        → Ends a a (replay_after_header input r) (Some (Refusal.Header fault))
    by (Ok header) e = absurd (cc)
    by (Err found) e = let same : fault ≡ found = cc in record { wrote = Appends-nil a; fault = ap (λ (f : HeaderFault). Some (AtHeader f)) (sym same) }
