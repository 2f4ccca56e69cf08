use Rattle.std.proofs.Common.{◌≡◌, drop, true}
use Rattle.std.specs.Prelude.{filter_map}
use Rattle.mdcc_struct.specs.Maps.{union}
use Rattle.mdcc_def_protocol.specs.Facts.{delta_given}
use Rattle.mdcc_facts_held.specs.Few.{is_few}
use Rattle.mdcc_facts_held.proofs.deltas.put_given.Given as goal

abbrev pub invariant-loop-choice : goal.invariant-loop-choice
invariant-loop-choice l = record {
  value : union l.deltas (filter_map (delta_given l.key l.version) (drop l.choice-index l.choices)) ≡ union l.initial.deltas (filter_map (delta_given l.key l.version) l.choices);
  few : is_few l.deltas ≡ true;
}
