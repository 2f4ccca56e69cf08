use Rattle.std.proofs.Common.{◌≡◌, drop, true}
use Rattle.std.specs.Prelude.{map}
use Rattle.mdcc_struct.specs.Maps.{union}
use Rattle.mdcc_facts_held.specs.Few.{is_few}
use Rattle.mdcc_facts_held.proofs.deltas.put_adopted.Given as goal

abbrev pub invariant-loop-delta : goal.invariant-loop-delta
invariant-loop-delta l = record {
  value : union l.deltas (map (λ delta. (delta.tx, delta.amounts)) (drop l.delta-index l.adds)) ≡ union l.initial.deltas (map (λ delta. (delta.tx, delta.amounts)) l.adds);
  few : is_few l.deltas ≡ true;
}
