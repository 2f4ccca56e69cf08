-- A call of `serve_node` that refuses its log does nothing.
use Rattle.std.specs.Prelude.{Err, List, Ok, Option, [], true, ℕ, ◌+◌, ◌≡◌}
use Rattle.mdcc_node_log.specs.Nodes.{facts_at_boot}
use Rattle.mdcc_config.specs.declared.config.Config.{Config}
use Rattle.mdcc_disks.specs.Disks.{Disk, Only}
use Rattle.mdcc_command_endings.specs.Logs.{AreAreasTold}
use Rattle.mdcc_link.specs.Link.{LinkCall}
use Rattle.mdcc_log_file.specs.Area.{payloads}
use Rattle.mdcc_def_messages.specs.Spelling.{encodings_of}
use Rattle.mdcc_def_protocol.specs.Belongs.{is_centre}
use Rattle.mdcc_def_rules.specs.declared.node.BootFault.{BootFault}
use Rattle.mdcc_def_server_runs.specs.Servers.{Log}
use Rattle.mdcc_serve.specs.Stays.{HasRefused}
use Rattle.mdcc_theorem_cluster_nodes.specs.Areas.{Areas}
use Rattle.mdcc_theorem_cluster_nodes.specs.Clusters.{LivesOver}

-- the areas of a centre on these disks
abbrev pub areas_on : {D : Type 0} → (D → ℕ → Disk) → D → ℕ → Areas
areas_on disk disks a = record { first = (disk disks a).bytes; second = (disk disks (a + 16)).bytes }

-- Where no node boots from the log that it found, by the clause `refused` of its contract (`HasRefused`) it lived a life without an act, and left the
-- areas with the same log; and so it is of whatever a crash leaves of areas that were durable, on disks that tear no byte to 1.
abbrev pub RefusedCallsDoNothing : {D L : Type 0} → Type 0 → (D → ℕ → Disk) → (D → ℕ → List ℕ → Type 0) → (ℕ → Type 0) → (L → Option (List LinkCall)) → (L → ℕ) → Type 0
RefusedCallsDoNothing {D = D} {L = L} O disk may_leave tears calls lost =
    (config : Config) (log : Log) (why : BootFault) (disks_before disks_after : D) (link_before link_after : L) (out_before out_after : O)
    → is_centre config.cluster log.centre ≡ true → AreAreasTold disk disks_before log.centre
    → payloads (areas_on disk disks_before log.centre).first (areas_on disk disks_before log.centre).second ≡ Ok (encodings_of log.facts) → facts_at_boot config.cluster (encodings_of log.facts) ≡ Err why
    → HasRefused disk may_leave tears calls lost config.cluster log.centre (log.centre + 1) disks_before disks_after link_before link_after out_before out_after
    → LivesOver config log [] (areas_on disk disks_after log.centre)
    × ((left : Areas) → (tears 1 → ⊥) → Only (areas_on disk disks_before log.centre).first (may_leave disks_before log.centre)
    → Only (areas_on disk disks_before log.centre).second (may_leave disks_before (log.centre + 16))
    → may_leave disks_after log.centre left.first → may_leave disks_after (log.centre + 16) left.second → LivesOver config log [] left)
