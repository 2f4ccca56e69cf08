use Rattle.std.proofs.Common.{◌≡◌, drop}
use Rattle.mdcc_struct.specs.Maps.{value_of}
use Rattle.mdcc_facts_held.proofs.deltas.amounts_of.Given as goal

abbrev pub invariant-loop-delta : goal.invariant-loop-delta
invariant-loop-delta l = value_of (drop l.delta-index l.deltas) l.tx ≡ value_of l.deltas l.tx
