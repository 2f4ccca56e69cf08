use Rattle.std.proofs.Common.{◌≡◌, ◌+◌, ◌-◌, ◌≤◌, length}
use Rattle.mdcc_def_language.specs.Words.{parts_from}
use Rattle.mdcc_sched_words.proofs.Parts.{parts_left}
use Rattle.mdcc_check_histories.specs.Grammar.{first_parts, history_parts_of, nine_onto}
use Rattle.mdcc_check_histories.proofs.parts.read_parts.Given as goal

abbrev pub invariant-loop-place : goal.invariant-loop-place
invariant-loop-place l = record {
  same : nine_onto l.parts (history_parts_of (l.place + 1) (parts_left 32 l.place l.line)) ≡ first_parts (l.at + 1) (parts_from 32 l.at l.line);
  few : length l.parts ≤ 9;
  within : l.place ≤ length l.line + 1;
}

abbrev pub decreases-loop-place : goal.decreases-loop-place
decreases-loop-place l = length l.line + 1 - l.place
