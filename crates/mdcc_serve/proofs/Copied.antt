-- The cluster of a configuration, copied.
use Rattle.std.proofs.Common.{◌≡◌, ◌≤◌, ◌∙◌, [], ℕ, true, ap, subst, sym}
use Rattle.std.specs.Prelude.{nat_le}
use Rattle.std.proofs.lemmas.Bool.{and_from, le-leb}
use Rattle.mdcc_node_boot.specs.Loading.{HoldsFacts}
use Rattle.mdcc_node_log.proofs.Unbooted.{empty_store}
use Rattle.mdcc_node_log.specs.Nodes.{CentreStore, are_stored, store_cells}
use Rattle.mdcc_config.specs.IsConfig.{IsConfig}
use Rattle.mdcc_config.specs.declared.config.Config.{Config}
use Rattle.mdcc_option.specs.declared.cluster.Cluster.{Cluster}
use Rattle.mdcc_def_protocol.specs.Belongs.{is_centre}
use Rattle.mdcc_def_protocol.specs.IsCluster.{IsCluster}

pub among_copy : (copy cluster : Cluster) (centre : ℕ) → copy ≡ cluster → 1 ≤ centre → centre ≤ cluster.quorums.centres → is_centre copy centre ≡ true
among_copy copy cluster centre same some among =
    subst (λ (of : Cluster). is_centre of centre ≡ true) (sym same)
    (and_from (nat_le 1 centre) (nat_le centre cluster.quorums.centres) (le-leb 1 centre some) (le-leb centre cluster.quorums.centres among))

pub cluster_copy : (copy : Cluster) (config : Config) → copy ≡ config.cluster → IsConfig config → IsCluster copy
cluster_copy copy config same is =
    subst IsCluster (sym same) (record { quorums = is.quorums; schema = is.schema; range = is.gamma; some_cells = is.some_cells; cells = is.cells })

-- an empty store with its cells
pub holds_copy : (store : CentreStore) (copy cluster : Cluster) → copy ≡ cluster → are_stored store [] → store_cells store ≡ cluster.cells → HoldsFacts are_stored store_cells copy.cells store []
holds_copy store copy cluster same empty cells = empty_store store copy empty (cells ∙ sym (ap (λ (of : Cluster). of.cells) same))
