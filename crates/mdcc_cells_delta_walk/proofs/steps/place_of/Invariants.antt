use Rattle.std.proofs.Common.{◌≡◌, ◌≤◌, ◌+◌, drop}
use Rattle.std.specs.List.{prefix_len}
use Rattle.mdcc_base.specs.TxId.{tx_lt}
use Rattle.mdcc_cells_delta_walk.proofs.steps.place_of.Given as goal

abbrev pub invariant-loop-other : goal.invariant-loop-other
invariant-loop-other l = record {
  value : l.place + prefix_len (λ other. tx_lt other l.tx) (drop l.other-index l.txs) ≡ prefix_len (λ other. tx_lt other l.tx) l.txs;
  bound : l.place ≤ l.other-index;
}
