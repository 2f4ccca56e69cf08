use Rattle.std.proofs.Common.{◌≡◌, ◌+◌, ◌-◌, ◌≤◌, length}
use Rattle.mdcc_def_language.specs.Words.{values_from, values_of}
use Rattle.mdcc_sched_words.proofs.Onto.{onto}
use Rattle.mdcc_sched_words.proofs.Parts.{parts_left}
use Rattle.mdcc_sched_words.proofs.values.values_of.Given as goal

abbrev pub invariant-loop-at : goal.invariant-loop-at
invariant-loop-at l = record {
  same : onto l.values (values_from (4 - length l.values) (l.at + l.column) (parts_left 44 l.at l.word)) ≡ values_of l.word l.column;
  place : l.at ≤ length l.word + 1;
}

abbrev pub decreases-loop-at : goal.decreases-loop-at
decreases-loop-at l = length l.word + 1 - l.at
