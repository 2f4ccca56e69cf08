-- A node over a store with the cells of the cluster does the step of the definitions.
use Rattle.std.proofs.Common.{◌≡◌, ◌∙◌, ℕ, List, ap}
use Rattle.mdcc_node_log.specs.Nodes.{CentreStore, IsNodeOf, store_cells}
use Rattle.mdcc_def_messages.specs.declared.facts.Fact.{Fact}
use Rattle.mdcc_node.proofs.Cells.{counted_steps}
use Rattle.mdcc_node.specs.StepAnswers.{step_by}
use Rattle.mdcc_node.specs.declared.node.Node.{Node}
use Rattle.mdcc_option.specs.declared.cluster.Cluster.{Cluster}
use Rattle.mdcc_def_protocol.specs.Volatile.{Volatile}
use Rattle.mdcc_def_rules.specs.Node.{step_of}
use Rattle.mdcc_def_rules.specs.declared.node.Input.{Input}
use Rattle.mdcc_def_rules.specs.Here.{here}

pub step-of-node : (node : Node CentreStore) (cluster : Cluster) (me : ℕ) (facts : List Fact) (volatile : Volatile) → IsNodeOf node cluster me facts volatile
    → (input : Input) → step_by (store_cells node.store) cluster me facts volatile input ≡ step_of (here cluster me facts) volatile input
step-of-node node cluster me facts volatile is input =
    ap (λ (n : ℕ). step_by n cluster me facts volatile input) is.cells ∙ counted_steps cluster me facts volatile input
