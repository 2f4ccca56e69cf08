-- Nodes whose facts and state are such as steps bring about.
use Rattle.std.specs.Prelude.{List, ℕ}
use Rattle.mdcc_def_messages.specs.declared.facts.Fact.{Fact}
use Rattle.mdcc_node.specs.Represents.{RepresentsCentre}
use Rattle.mdcc_node.specs.declared.node.Node.{Node}
use Rattle.mdcc_option.specs.declared.cluster.Cluster.{Cluster}
use Rattle.mdcc_def_protocol.specs.Volatile.{Volatile}
use Rattle.mdcc_theorem_node_steps.specs.NodeInvariant.{IsNode}

-- a node is a centre of a cluster with facts and a state for which all holds that a boot gives and a step keeps
pub record IsRunning {S : Type 0} (stands : S → List Fact → Type 0) (node : Node S) : Type 0 where
  pub cluster : Cluster
  pub me : ℕ
  pub facts : List Fact
  pub volatile : Volatile
  pub itself : RepresentsCentre stands node cluster me facts volatile
  pub kept : IsNode cluster me facts volatile
