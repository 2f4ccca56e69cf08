-- A log that is refused stands as it was.
use Rattle.std.proofs.Common.{Err, List, Ok, Option, Result, [], arith, inl, inr, refl, true, ℕ, ◌≡◌}
use Rattle.mdcc_node_log.specs.Nodes.{facts_at_boot}
use Rattle.mdcc_config.specs.declared.config.Config.{Config}
use Rattle.mdcc_disks.specs.Disks.{Disk}
use Rattle.mdcc_link.specs.Link.{LinkCall}
use Rattle.mdcc_log_file.specs.Area.{payloads}
use Rattle.mdcc_def_messages.specs.Spelling.{encodings_of}
use Rattle.mdcc_def_messages.specs.declared.facts.Fact.{Fact}
use Rattle.mdcc_option.specs.declared.cluster.Cluster.{Cluster}
use Rattle.mdcc_def_protocol.specs.Belongs.{is_centre}
use Rattle.mdcc_def_rules.specs.declared.node.BootFault.{BootFault}
use Rattle.mdcc_def_server_runs.specs.Servers.{Log}
use Rattle.mdcc_serve.specs.Stays.{MayHaveBoot}
use Rattle.mdcc_theorem_cluster_nodes.specs.Areas.{Areas}
use Rattle.mdcc_theorem_cluster_nodes.specs.Clusters.{LivesOver}
use Rattle.mdcc_theorem_cluster_nodes.specs.Refused.{RefusedCallsDoNothing, areas_on}

not-booted : (r : Result (List Fact) BootFault) (why : BootFault) (facts : List Fact) → r ≡ Err why → r ≡ Ok facts → ⊥
not-booted (Err fault) why facts e f = absurd (cc)
not-booted (Ok some) why facts e f = absurd (cc)

reads-same : (cluster : Cluster) (all : List (List ℕ)) (read : Result (List (List ℕ)) ℕ) (why : BootFault) → facts_at_boot cluster all ≡ Err why → MayHaveBoot cluster all read → read ≡ Ok all
reads-same cluster all read why none may =
    elim may [
      | inl same ↦ same
      | inr boot ↦ absurd (not-booted (facts_at_boot cluster all) why _ none boot.2)
    ]

-- a life without an act, over areas that have the same log
refused-over : (config : Config) (log : Log) (why : BootFault) (left : Areas) → is_centre config.cluster log.centre ≡ true → facts_at_boot config.cluster (encodings_of log.facts) ≡ Err why
    → MayHaveBoot config.cluster (encodings_of log.facts) (payloads left.first left.second) → LivesOver config log [] left
refused-over config log why left centre none may = record {
  life = record { centre = log.centre; log = log.facts; acts = []; kept = log.facts };
  is = record { centre = centre; lived = inr (record { acts = refl; kept = refl }) };
  log_is = refl;
  acts_are = refl;
  read = reads-same config.cluster _ _ why none may;
}

pub refused-nothing : {D L : Type 0} (O : Type 0) (disk : D → ℕ → Disk) (may_leave : D → ℕ → List ℕ → Type 0) (tears : ℕ → Type 0) (calls : L → Option (List LinkCall)) (lost : L → ℕ) → RefusedCallsDoNothing O disk may_leave tears calls lost
refused-nothing O disk may_leave tears calls lost config log why disks_before disks_after link_before link_after out_before out_after centre told has none refused =
    let stays = refused.logs log.centre (omega arith) (omega arith) in (
      refused-over config log why (areas_on disk disks_after log.centre) centre none (stays.read _ told has),
      λ left never only only_other first second. refused-over config log why left centre none (stays.crash _ left.first left.second never told only only_other has first second),
    )
