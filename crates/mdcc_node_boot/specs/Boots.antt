-- That a boot over a store with the cells of the cluster is the protocol's.
use Rattle.std.specs.Prelude.{List, Option, Some, ◌<◌, ◌^◌, ◌≡◌}
use Rattle.std.specs.List.{AllByRecursion}
use Rattle.mdcc_node_boot.specs.Loading.{boot_by}
use Rattle.mdcc_option.specs.declared.cluster.Cluster.{Cluster}
use Rattle.mdcc_def_rules.specs.Boot.{boot_of}
use Rattle.mdcc_def_messages.specs.Lengths.{cells_needed}
use Rattle.mdcc_def_messages.specs.declared.facts.Fact.{Fact}

abbrev pub BootsWithinCells : Type 0
BootsWithinCells =
    (cluster : Cluster) (payloads : List (Option Fact))
    → cluster.cells < 2 ^ 63 → AllByRecursion (λ payload. (fact : Fact) → payload ≡ Some fact → cells_needed fact < 2 ^ 63) payloads
    → boot_by cluster.cells cluster payloads ≡ boot_of cluster payloads
