use Rattle.std.proofs.Common.{◌≡◌, [], List, drop, fold}
use Rattle.mdcc_def_messages.specs.declared.facts.Fact.{Fact}
use Rattle.mdcc_escrow.specs.Sums.{IsBoundedLoad}
use Rattle.mdcc_escrow.specs.Weights.{no_load, with_live}
use Rattle.mdcc_leader_structures.specs.Live.{live_marks}
use Rattle.mdcc_leader_structures.proofs.live.load_of_marks.Given as goal

abbrev pub invariant-loop-place : goal.invariant-loop-place
invariant-loop-place g l = record {
  bounded : IsBoundedLoad l.load;
  value : (facts : List Fact) → g.S.FactStore.stands l.store facts
      → fold (with_live []) l.load (live_marks facts (drop l.place l.marks)) ≡ fold (with_live []) no_load (live_marks facts l.marks);
}
