-- Nodes that are booted for the first time.
use Rattle.std.specs.Prelude.{◌≡◌, ◌+◌, ◌∷◌, [], List, Some, length, slice_get, ℕ}
use Rattle.mdcc_node_log.specs.Nodes.{CentreStore, IsNodeOf}
use Rattle.mdcc_def_messages.specs.declared.facts.Fact.{Fact}
use Rattle.mdcc_node.specs.declared.node.Node.{Node}
use Rattle.mdcc_option.specs.declared.cluster.Cluster.{Cluster}
use Rattle.mdcc_def_protocol.specs.Volatile.{initial_volatile}

-- so many nodes, each booted for the first time
pub record AreStarted (nodes : List (Node CentreStore)) (cluster : Cluster) (count : ℕ) : Type 0 where
  pub as_many : length nodes ≡ count
  pub each : (place : ℕ) (node : Node CentreStore) → slice_get nodes place ≡ Some node
      → IsNodeOf node cluster (place + 1) (Fact.Booted 1 ∷ []) initial_volatile
