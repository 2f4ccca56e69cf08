-- Facts that a centre may have added.
use Rattle.std.specs.List.{AllByRecursion}
use Rattle.std.specs.Prelude.{IsTrue, List, fold, ◌∷◌}
use Rattle.mdcc_option.specs.declared.cluster.Cluster.{Cluster}
use Rattle.mdcc_def_ledger.specs.BootTest.{are_allowed_facts}
use Rattle.mdcc_def_messages.specs.WellFormed.{IsWellFormedFact}
use Rattle.mdcc_def_messages.specs.declared.facts.Fact.{Fact}

-- facts that a centre of the cluster may have added: each well-formed, and allowed after those before it
pub record AreLogged (cluster : Cluster) (facts : List Fact) : Type 0 where
  pub allowed : IsTrue (are_allowed_facts cluster facts)
  pub well_formed : AllByRecursion IsWellFormedFact facts

-- the facts with these after them
abbrev pub with_facts : List Fact → List Fact → List Fact
with_facts facts more = fold (λ before fact. fact ∷ before) facts more
