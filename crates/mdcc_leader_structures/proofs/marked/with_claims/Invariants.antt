use Rattle.std.proofs.Common.{◌≡◌, List, drop, fold}
use Rattle.mdcc_def_messages.specs.declared.facts.Fact.{Fact}
use Rattle.mdcc_def_protocol.specs.Structures.{with_claim}
use Rattle.mdcc_escrow.specs.Sums.{IsBoundedLoad}
use Rattle.mdcc_leader_structures.specs.Live.{IsWeighed}
use Rattle.mdcc_leader_structures.proofs.marked.with_claims.Given as goal

abbrev pub invariant-loop-place : goal.invariant-loop-place
invariant-loop-place g l = record {
  bounded : IsBoundedLoad l.load;
  weighed : (facts : List Fact) → g.S.FactStore.stands l.store facts → IsWeighed facts l.key l.options l.load;
  value : (facts : List Fact) → g.S.FactStore.stands l.store facts
      → fold (with_claim l.cluster facts l.key l.version) l.options (drop l.place l.claims) ≡ fold (with_claim l.cluster facts l.key l.version) l.fn.options l.claims;
}
