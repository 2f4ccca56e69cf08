-- A call over areas of which the log is known.
use Rattle.std.proofs.Common.{List, Ok, Option, Result, [], ap, subst, sym, ℕ, ◌+◌, ◌∙◌, ◌≡◌}
use Rattle.std.specs.Prelude.{fold, map}
use Rattle.mdcc_node_boot.specs.Loading.{fact_read}
use Rattle.mdcc_node_log.proofs.Logged.{payloads-read}
use Rattle.mdcc_command_endings.specs.Logs.{AreAreasTold}
use Rattle.mdcc_config.specs.declared.config.Config.{Config}
use Rattle.mdcc_def_messages.specs.Spelling.{encodings_of}
use Rattle.mdcc_def_messages.specs.declared.facts.Fact.{Fact}
use Rattle.mdcc_def_rules.specs.Steps.{with_new}
use Rattle.mdcc_def_server_runs.specs.Acts.{Act}
use Rattle.mdcc_def_server_runs.specs.Servers.{Log}
use Rattle.mdcc_disks.specs.Disks.{Disk}
use Rattle.mdcc_link.specs.Link.{LinkCall}
use Rattle.mdcc_log_file.specs.Area.{payloads}
use Rattle.mdcc_serve.specs.Serving.{IsServedLog}
use Rattle.mdcc_serve.specs.declared.served.Served.{Served}
use Rattle.mdcc_serve_site.specs.declared.fault.ServeFault.{ServeFault}
use Rattle.mdcc_theorem_node_steps.specs.NodeInvariant.{fact_payloads}
use Rattle.mdcc_theorem_cluster_nodes.proofs.Clusters.{facts-back, ok-same}
use Rattle.mdcc_theorem_cluster_nodes.specs.Areas.{Areas}
use Rattle.mdcc_theorem_cluster_nodes.specs.Calls.{Clause, IsGranted, Setting, acts_done}
use Rattle.mdcc_theorem_cluster_nodes.specs.Clusters.{IsCalled}

-- facts that are read from the encodings of well-formed ones are these
read-same : (one other : List Fact) → map fact_read (encodings_of one) ≡ fact_payloads one → map fact_read (encodings_of other) ≡ fact_payloads other → encodings_of one ≡ encodings_of other → one ≡ other
read-same one other w v bytes =
    let all : fact_payloads one ≡ fact_payloads other = sym w ∙ (ap (λ (xs : List (List ℕ)). map fact_read xs) bytes ∙ v) in
    sym (facts-back one) ∙ (ap (λ (xs : List (Option Fact)). fold (λ before fact. with_new before fact) [] xs) all ∙ facts-back other)

module _ {D L O : Type 0} (disk : D → ℕ → Disk) (may_leave : D → ℕ → List ℕ → Type 0) (tears : ℕ → Type 0) (calls : L → Option (List LinkCall)) (lost : L → ℕ) (held : O → Option (List ℕ)) (config : Config) (at : Setting disk may_leave tears calls lost held) (result : Result Served ServeFault) (acts : List Act) where
  -- it did these acts over this log
  pub record DidOver (log : Log) : Type 0 where
    pub serves : Clause disk may_leave tears calls lost held config log at result
    pub granted : IsGranted disk may_leave tears calls lost held config (record { log = log; at = at; result = result; serves = serves })
    pub acts_are : acts ≡ acts_done disk may_leave tears calls lost held config log at result serves

  pub called-by : (a : ℕ) (found left : Areas) (facts : List Fact) → payloads found.first found.second ≡ Ok (encodings_of facts) → map fact_read (encodings_of facts) ≡ fact_payloads facts → DidOver (record { centre = a; facts = facts })
      → AreAreasTold disk at.disks_before a → (disk at.disks_before a).bytes ≡ found.first → (disk at.disks_before (a + 16)).bytes ≡ found.second
      → may_leave at.disks_after a left.first → may_leave at.disks_after (a + 16) left.second → IsCalled disk may_leave tears calls lost held config a found acts left
  called-by a found left facts read back did told first second left_first left_second =
      let known : (log : Log) → log.centre ≡ a → IsServedLog disk config.cluster at.disks_before log → record { centre = a; facts = facts } ≡ log = λ log own has.
      let bytes : (disk at.disks_before log.centre).bytes ≡ found.first = ap (λ (n : ℕ). (disk at.disks_before n).bytes) own ∙ first in
      let others : (disk at.disks_before (log.centre + 16)).bytes ≡ found.second = ap (λ (n : ℕ). (disk at.disks_before (n + 16)).bytes) own ∙ second in
      let stands : payloads found.first found.second ≡ Ok (encodings_of log.facts) =
      sym (ap (λ (xs : List ℕ). payloads xs (disk at.disks_before (log.centre + 16)).bytes) bytes ∙ ap (payloads found.first) others) ∙ has.has in
      let same : facts ≡ log.facts = read-same facts log.facts back (payloads-read log.facts has.allowed.well_formed)
      (ok-same (payloads found.first found.second) (encodings_of facts) (encodings_of log.facts) read stands) in
      ap (λ (all : List Fact). record { centre = a; facts = all }) same ∙ ap (λ (n : ℕ). record { centre = n; facts = log.facts }) (sym own) in
      let each : (log : Log) → log.centre ≡ a → IsServedLog disk config.cluster at.disks_before log → DidOver log = λ log own has. subst DidOver (known log own has) did in
      record {
        at = at;
        result = result;
        told = told;
        first = first;
        second = second;
        serves = λ log own has. (each log own has).serves;
        granted = λ log own has. (each log own has).granted;
        acts_are = λ log own has. (each log own has).acts_are;
        left_first = left_first;
        left_second = left_second;
      }
