use Rattle.std.proofs.Common.{◌≡◌, take}
use Rattle.mdcc_struct.specs.Maps.{txs_of}
use Rattle.mdcc_facts_held.proofs.deltas.txs_of.Given as goal

abbrev pub invariant-loop-delta : goal.invariant-loop-delta
invariant-loop-delta l = l.seen ≡ txs_of (take l.delta-index l.delta-items)
