use Rattle.std.proofs.Common.{◌≡◌, List, false, map, take}
use Rattle.std.specs.List.{list_any}
use Rattle.mdcc_option.specs.declared.choices.Choice.{Choice}
use Rattle.mdcc_def_messages.specs.declared.facts.Fact.{Fact}
use Rattle.mdcc_index.specs.Crowding.{is_key_crowded}
use Rattle.mdcc_index.specs.Stores.{Represents}
use Rattle.mdcc_index.proofs.fact_pool.FactPool.is_one_crowded.Given as goal

abbrev pub invariant-loop-choice : goal.invariant-loop-choice
invariant-loop-choice l =
    (facts : List Fact) → Represents l.self facts → list_any (is_key_crowded facts l.fact) (map (λ (choice : Choice). choice.key) (take l.choice-index l.choices)) ≡ false
