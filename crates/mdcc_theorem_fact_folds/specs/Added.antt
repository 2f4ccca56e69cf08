-- What holds of the facts of a store, since each met the condition of an addition.
use Rattle.std.specs.List.{list_all, list_any}
use Rattle.std.specs.Prelude.{◌≡◌, List, [], false, true, ◌∷◌}
use Rattle.mdcc_def_messages.specs.declared.facts.Fact.{Fact}
use Rattle.mdcc_def_protocol.specs.Facts.{has_floor}
use Rattle.mdcc_facts.specs.Adding.{MayBeAdded, offers_unmarked}
use Rattle.mdcc_facts.specs.Listed.{are_voted_once}
use Rattle.mdcc_theorem_fact_folds.specs.Live.{is_ordered}
use Rattle.mdcc_theorem_fact_folds.specs.Outcomes.{are_heard_once}

-- no mark was voted twice at its ballot, no transaction was heard twice, the entries of each fact stand in order, each offers only a choice
-- of a transaction that it marks, and no floor is set
pub record AreAdded (facts : List Fact) : Type 0 where
  pub voted : are_voted_once facts ≡ true
  pub heard : are_heard_once facts ≡ true
  pub ordered : list_all is_ordered facts ≡ true
  pub marked : list_any offers_unmarked facts ≡ false
  pub no_floor : has_floor facts ≡ false

abbrev pub NoFactsAreAdded : Type 0
NoFactsAreAdded = AreAdded []

abbrev pub FactsStayAdded : Type 0
FactsStayAdded = (facts : List Fact) (fact : Fact) → AreAdded facts → MayBeAdded facts fact → AreAdded (fact ∷ facts)
