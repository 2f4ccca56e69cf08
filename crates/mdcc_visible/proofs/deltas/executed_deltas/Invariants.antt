use Rattle.std.proofs.Common.{◌≡◌, List, ◌≤◌, length, take}
use Rattle.mdcc_def_messages.specs.declared.facts.Fact.{Fact as AFact}
use Rattle.mdcc_def_protocol.specs.Facts.{executed_of}
use Rattle.mdcc_visible.specs.Deltas.{deltas_of_map}
use Rattle.mdcc_visible.proofs.deltas.executed_deltas.Given as goal

abbrev pub invariant-loop-tx : goal.invariant-loop-tx
invariant-loop-tx g l = record {
  few : length l.deltas ≤ l.tx-index;
  all : length l.tx-items ≤ 64;
  executed : (facts : List AFact) → g.S.FactStore.stands l.store facts → l.deltas ≡ take l.tx-index (deltas_of_map (executed_of facts l.key));
}
