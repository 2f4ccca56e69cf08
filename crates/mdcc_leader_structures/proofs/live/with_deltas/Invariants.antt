use Rattle.std.proofs.Common.{◌≡◌, List, drop, fold}
use Rattle.mdcc_def_messages.specs.declared.facts.Fact.{Fact}
use Rattle.mdcc_escrow.specs.Sums.{IsBoundedLoad}
use Rattle.mdcc_leader_structures.specs.Live.{with_delta}
use Rattle.mdcc_leader_structures.proofs.live.with_deltas.Given as goal

abbrev pub invariant-loop-tx : goal.invariant-loop-tx
invariant-loop-tx g l = record {
  bounded : IsBoundedLoad l.load;
  value : (facts : List Fact) → g.S.FactStore.stands l.store facts
      → fold (with_delta facts l.key l.options) l.load (drop l.tx-index l.tx-items) ≡ fold (with_delta facts l.key l.options) l.fn.load l.tx-items;
}
