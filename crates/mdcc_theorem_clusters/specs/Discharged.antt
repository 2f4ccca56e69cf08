-- The headline for clusters of served nodes: what holds of every execution.
use Rattle.std.specs.Prelude.{List}
use Rattle.mdcc_config.specs.IsConfig.{IsConfig}
use Rattle.mdcc_config.specs.declared.config.Config.{Config}
use Rattle.mdcc_theorem_clusters.specs.Clusters.{Move, after_moves, not_started}
use Rattle.mdcc_theorem_clusters.specs.Executions.{IsExecution}
use Rattle.mdcc_theorem_clusters.specs.Headline.{ActsTellTruth, IsToldTruly}

abbrev pub HeadlineOfClusters : Type 0
HeadlineOfClusters =
    (config : Config) → IsConfig config → (moves : List Move) → IsExecution config not_started moves → IsToldTruly config (after_moves config not_started moves).done (after_moves config not_started moves).durable

-- it speaks of this execution: there is such a ledger, and it tells the truth
abbrev pub TellsTruthOf : Config → List Move → Type 0
TellsTruthOf config moves =
    (told : IsToldTruly config (after_moves config not_started moves).done (after_moves config not_started moves).durable)
    × ActsTellTruth config (after_moves config not_started moves).done told.ledger
