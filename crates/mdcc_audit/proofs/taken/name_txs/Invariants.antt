use Rattle.std.proofs.Common.{◌≡◌, drop}
use Rattle.mdcc_audit.specs.Auditing.{with_txs}
use Rattle.mdcc_struct.specs.Maps.{txs_of}
use Rattle.mdcc_audit.proofs.taken.name_txs.Given as goal

abbrev pub invariant-loop-i : goal.invariant-loop-i
invariant-loop-i l = with_txs l.named.keys (txs_of (drop l.i l.options)) ≡ with_txs l.initial.named.keys (txs_of l.options)
