use Rattle.std.proofs.Common.{◌≡◌, ◌+◌, ◌-◌, ◌≤◌, length}
use Rattle.mdcc_def_language.specs.Updates.{amounts_from, parse_amounts}
use Rattle.mdcc_sched_words.proofs.Onto.{onto}
use Rattle.mdcc_sched_words.proofs.Parts.{parts_left}
use Rattle.mdcc_sched_words.proofs.amounts.parse_amounts.Given as goal

abbrev pub invariant-loop-at : goal.invariant-loop-at
invariant-loop-at l = record {
  same : onto l.amounts (amounts_from (4 - length l.amounts) (l.at + l.column) (parts_left 44 l.at l.word)) ≡ parse_amounts l.word l.column;
  place : l.at ≤ length l.word + 1;
}

abbrev pub decreases-loop-at : goal.decreases-loop-at
decreases-loop-at l = length l.word + 1 - l.at
