-- The first moves of an execution are one.
use Rattle.std.proofs.Common.{List, [], ◌++◌, ◌∷◌}
use Rattle.mdcc_config.specs.declared.config.Config.{Config}
use Rattle.mdcc_theorem_clusters.specs.Clusters.{Deployment, Move, after_move}
use Rattle.mdcc_theorem_clusters.specs.Executions.{AreWithinLimits, IsExecution}

within-now : (config : Config) (state : Deployment) (moves : List Move) → IsExecution config state moves → AreWithinLimits state
within-now config state [] h = h
within-now config state (move ∷ moves) h = h.0

pub front-executed : (config : Config) (state : Deployment) (first more : List Move) → IsExecution config state (first ++ more) → IsExecution config state first
front-executed config state [] more h = within-now config state more h
front-executed config state (move ∷ first) more h = (h.0, h.1, front-executed config (after_move config state move) first more h.2)
