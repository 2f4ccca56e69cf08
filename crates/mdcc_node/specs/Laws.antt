-- That a node's step is the protocol's, where its store has the cells of the cluster.
use Rattle.std.specs.Prelude.{◌≡◌, List, ℕ}
use Rattle.mdcc_node.specs.StepAnswers.{step_by}
use Rattle.mdcc_option.specs.declared.cluster.Cluster.{Cluster}
use Rattle.mdcc_def_rules.specs.Node.{step_of}
use Rattle.mdcc_def_protocol.specs.Volatile.{Volatile}
use Rattle.mdcc_def_messages.specs.declared.facts.Fact.{Fact}
use Rattle.mdcc_def_rules.specs.declared.node.Input.{Input}
use Rattle.mdcc_def_rules.specs.Here.{here}

abbrev pub StepsWithinCells : Type 0
StepsWithinCells =
    (cluster : Cluster) (me : ℕ) (facts : List Fact) (volatile : Volatile) (input : Input)
    → step_by cluster.cells cluster me facts volatile input ≡ step_of (here cluster me facts) volatile input
