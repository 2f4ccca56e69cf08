use Rattle.std.proofs.Common.{◌≡◌, ◌+◌, ◌-◌, ◌≤◌, length}
use Rattle.mdcc_def_language.specs.Schedule.{numbers_from}
use Rattle.mdcc_def_language.specs.Words.{parts_from}
use Rattle.mdcc_sched_words.proofs.Onto.{onto}
use Rattle.mdcc_sched_words.proofs.Parts.{parts_left}
use Rattle.mdcc_sched.proofs.lists.numbers_from.Given as goal

abbrev pub invariant-loop-place : goal.invariant-loop-place
invariant-loop-place l = record {
  same : onto l.numbers (numbers_from (l.place + 1) (parts_left 32 l.place l.line)) ≡ numbers_from (l.at + 1) (parts_from 32 l.at l.line);
  within : l.place ≤ length l.line + 1;
}

abbrev pub decreases-loop-place : goal.decreases-loop-place
decreases-loop-place l = length l.line + 1 - l.place
