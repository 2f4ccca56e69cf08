use Rattle.std.proofs.Common.{◌≡◌, drop}
use Rattle.mdcc_def_protocol.specs.Fit.{has_tx}
use Rattle.mdcc_cells_delta_walk.proofs.steps.has_tx.Given as goal

abbrev pub invariant-loop-other : goal.invariant-loop-other
invariant-loop-other l = has_tx (drop l.other-index l.txs) l.tx ≡ has_tx l.txs l.tx
