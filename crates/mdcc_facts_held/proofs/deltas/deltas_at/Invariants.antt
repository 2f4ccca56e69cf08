use Rattle.std.proofs.Common.{◌≡◌, take, true}
use Rattle.std.specs.Prelude.{reverse}
use Rattle.mdcc_def_protocol.specs.Facts.{deltas_at}
use Rattle.mdcc_facts_held.specs.Few.{is_few}
use Rattle.mdcc_facts_held.proofs.deltas.deltas_at.Given as goal

abbrev pub invariant-loop-fact : goal.invariant-loop-fact
invariant-loop-fact l = record {
  value : l.deltas ≡ deltas_at (reverse (take l.fact-index l.facts)) l.key l.version;
  few : is_few l.deltas ≡ true;
}
