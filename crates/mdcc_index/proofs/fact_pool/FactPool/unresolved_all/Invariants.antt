use Rattle.std.proofs.Common.{◌≡◌, List, take}
use Rattle.mdcc_def_messages.specs.declared.facts.Fact.{Fact}
use Rattle.mdcc_def_protocol.specs.Plain.{plain_unresolved_of}
use Rattle.mdcc_index.specs.Stores.{Represents}
use Rattle.mdcc_index.proofs.fact_pool.FactPool.unresolved_all.Given as goal

abbrev pub invariant-loop-place : goal.invariant-loop-place
invariant-loop-place l = (facts : List Fact) → Represents l.self facts → l.all ≡ take l.place (plain_unresolved_of facts)
