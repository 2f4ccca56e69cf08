use Rattle.std.proofs.Common.{◌≡◌, ◌+◌, ◌-◌, ◌≤◌, length}
use Rattle.mdcc_sched_words.proofs.Onto.{onto}
use Rattle.mdcc_sched_words.proofs.Parts.{parts_left}
use Rattle.mdcc_check_histories.specs.Grammar.{txs_from, txs_of}
use Rattle.mdcc_check_histories.proofs.words.txs_of.Given as goal

abbrev pub invariant-loop-at : goal.invariant-loop-at
invariant-loop-at l = record {
  same : onto l.seen (txs_from (64 - length l.seen) l.last (l.at + l.column) (parts_left 44 l.at l.word)) ≡ txs_of l.word l.column;
  place : l.at ≤ length l.word + 1;
}

abbrev pub decreases-loop-at : goal.decreases-loop-at
decreases-loop-at l = length l.word + 1 - l.at
