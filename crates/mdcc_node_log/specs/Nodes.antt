-- The node of a centre over the store that programs have, and the node that payloads give.
use Rattle.std.specs.Prelude.{◌≡◌, List, Result, map, ℕ}
use Rattle.mdcc_node_boot.specs.Loading.{boot_by, fact_read}
use Rattle.mdcc_index.specs.Stores.{Represents, Store, cells_in_all}
use Rattle.mdcc_def_messages.specs.declared.facts.Fact.{Fact}
use Rattle.mdcc_node.specs.Represents.{RepresentsCentre}
use Rattle.mdcc_node.specs.declared.node.Node.{Node}
use Rattle.mdcc_option.specs.declared.cluster.Cluster.{Cluster}
use Rattle.mdcc_def_protocol.specs.Volatile.{Volatile}
use Rattle.mdcc_def_rules.specs.declared.node.BootFault.{BootFault}
use Rattle.mdcc_theorem_node_steps.specs.NodeInvariant.{FitInTurn}

-- ---- its store

-- the store of a centre's facts
abbrev pub CentreStore : Type 0
CentreStore = Store

-- it represents the facts that it lists
abbrev pub are_stored : CentreStore → List Fact → Type 0
are_stored store facts = Represents store facts

-- and has so many cells
abbrev pub store_cells : CentreStore → ℕ
store_cells store = cells_in_all store

-- ---- its node

-- a node over such a store, which has the cells of the cluster; its facts had room in them in turn
pub record IsNodeOf (node : Node CentreStore) (cluster : Cluster) (me : ℕ) (facts : List Fact) (volatile : Volatile) : Type 0 where
  pub itself : RepresentsCentre are_stored node cluster me facts volatile
  pub cells : store_cells node.store ≡ cluster.cells
  pub fits : FitInTurn cluster facts

-- the facts of the node that boots from these payloads, with the new boot, the newest first; or why there is none
abbrev pub facts_at_boot : Cluster → List (List ℕ) → Result (List Fact) BootFault
facts_at_boot cluster payloads = boot_by cluster.cells cluster (map fact_read payloads)
