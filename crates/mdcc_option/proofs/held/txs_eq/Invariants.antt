use Rattle.std.proofs.Common.{◌≡◌, drop}
use Rattle.mdcc_option.specs.Equality.{txs_eq}
use Rattle.mdcc_option.proofs.held.txs_eq.Given as goal

abbrev pub invariant-loop-tx : goal.invariant-loop-tx
invariant-loop-tx l = txs_eq (drop l.tx-index l.a) l.rest ≡ txs_eq l.a l.b
