-- How the command ends where nothing failed.
use Rattle.std.proofs.Common.{Err, IfErr, IfSome, IsTrue, List, Ok, Option, Result, ap, arith, inl, inr, refl, subst, ℕ, ◌&&◌, ◌+◌, ◌-◌, ◌<◌, ◌==◌, ◌^◌, ◌∙◌, ◌≡◌, ◌≤◌, ◌⊎◌}
use Rattle.std.specs.Prelude.{is_err}
use Rattle.mdcc_audit.specs.Logs.{audit_of}
use Rattle.mdcc_command_audit.specs.Audits.{AreTold, GivesVerdicts, IsCentreUpTo, IsPrintFailure, SaysAt, logs_on}
use Rattle.mdcc_command_audit.specs.Commands.{AuditCompletes, AuditEnds, Audits, AuditsLogs, Concludes, IsNodeLog, LacksCells, RunsAudit}
use Rattle.mdcc_command_audit.specs.declared.found.Found.{Found}
use Rattle.mdcc_base.specs.declared.source.ReadAllFault.{ReadAllFault}
use Rattle.mdcc_node_log.proofs.Starts.{boot-ends}
use Rattle.mdcc_node_log.specs.Logged.{AreLogged}
use Rattle.mdcc_node_log.specs.Nodes.{are_stored, facts_at_boot, store_cells}
use Rattle.mdcc_config.specs.declared.config.Config.{Config}
use Rattle.mdcc_disks.specs.Disks.{Disk}
use Rattle.mdcc_command_endings.proofs.Accepted.{IsUnlucky, accepted, status_done, status_failed}
use Rattle.mdcc_command_endings.specs.Endings.{status_after}
use Rattle.mdcc_command_endings.specs.Logs.{LogRefusal, SaysLogs, SaysRefused, node_booted_at, node_from, node_of}
use Rattle.mdcc_command_endings.specs.declared.fault.Failure.{Failure}
use Rattle.mdcc_log_file.specs.declared.fault.LogFault.{LogFault}
use Rattle.mdcc_def_messages.specs.Spelling.{encodings_of}
use Rattle.mdcc_def_messages.specs.declared.facts.Fact.{Fact}
use Rattle.mdcc_option.specs.declared.cluster.Cluster.{Cluster}
use Rattle.mdcc_def_protocol.specs.Facts.{epoch_of}
use Rattle.mdcc_def_rules.specs.declared.node.BootFault.{BootFault}

-- ---- the node of a log that is read

-- allowed facts with an epoch below the last give a node where its cells suffice
module _ (cluster : Cluster) (facts : List Fact) (are : AreLogged cluster facts) (below : epoch_of facts < 2 ^ 32 - 1) where
  not_epochs : facts_at_boot cluster (encodings_of facts) ≡ Err BootFault.Epochs → ⊥
  not_epochs is =
      let past : 2 ^ 32 - 1 ≤ epoch_of facts = boot-ends are_stored store_cells cluster.cells cluster 1 facts (encodings_of facts) refl are BootFault.Epochs is in
      omega (below, past, arith)

  not_none : (n : ℕ) → facts_at_boot cluster (encodings_of facts) ≡ Err (BootFault.NotARun n) → ⊥
  not_none n is = boot-ends are_stored store_cells cluster.cells cluster 1 facts (encodings_of facts) refl are (BootFault.NotARun n) is

not_read : (b : Result (List Fact) BootFault) (n : ℕ) → node_of b ≡ Err (LogRefusal.NotALog n) → ⊥
not_read (Ok facts) n e = cc
not_read (Err why) n e = cc

not_booted : (b : Result (List Fact) BootFault) (why : BootFault) → node_of b ≡ Err (LogRefusal.NoNode why) → b ≡ Err why
not_booted (Ok facts) why e = absurd (cc)
not_booted (Err other) why e = cc

module _ (cluster : Cluster) (read : Result (List (List ℕ)) ℕ) (all : List (List ℕ)) (is : read ≡ Ok all) where
  read_log : (n : ℕ) → node_from cluster read ≡ Err (LogRefusal.NotALog n) → ⊥
  read_log n e = not_read (facts_at_boot cluster all) n (subst (λ (r : Result (List (List ℕ)) ℕ). node_from cluster r ≡ Err (LogRefusal.NotALog n)) is e)

  boot_fault : (why : BootFault) → node_from cluster read ≡ Err (LogRefusal.NoNode why) → facts_at_boot cluster all ≡ Err why
  boot_fault why e = not_booted (facts_at_boot cluster all) why (subst (λ (r : Result (List (List ℕ)) ℕ). node_from cluster r ≡ Err (LogRefusal.NoNode why)) is e)

-- ---- of what was found

abbrev failed_by : Failure → Result Found Failure
failed_by failure = Err failure

neither : ⊥ ⊎ (ℕ × ⊥) → ⊥
neither may = elim may [
  | inl h ↦ h
  | inr h ↦ h.1
]

module _ {D O : Type 0} (disk : D → ℕ → Disk) (held : O → Option (List ℕ)) (disks : D) (out_old out_new : O) (status : ℕ) where
  -- what is claimed, over an accepted configuration
  abbrev Completed : Config → Type 0
  Completed config =
      Concludes (audit_of config.cluster.quorums (logs_on disk disks config.cluster)) status (held out_old) (held out_new)
      ⊎ ((status ≡ 10) ⊎ ((status ≡ 11) × LacksCells disk disks config.cluster))

  module _ (config : Config) (logs : (a : ℕ) → IsCentreUpTo config.cluster.quorums.centres a → IsNodeLog disk disks config.cluster a) where
    abbrev Fails : Failure → Type 0
    Fails failure = IsPrintFailure failure ⊎ ((a : ℕ) × SaysAt disk config.cluster disks a failure)

    memory_failed : (status ≡ 10) ⊎ (status ≡ 10) → Completed config
    memory_failed ten = elim ten [
      | inl e ↦ inr (inl e)
      | inr e ↦ inr (inl e)
    ]

    failed_completes : (failure : Failure) → (status ≡ status_after (failed_by failure)) ⊎ IsTrue (is_err (failed_by failure) && status == 10) → Fails failure
        → SaysRefused (node_booted_at disk config.cluster disks) 1 config.cluster.quorums.centres failure
        → ((a : ℕ) → failure ≡ Failure.Log a LogFault.DiskFault → ⊥) → (failure ≡ Failure.Output → ⊥) → Completed config
    failed_completes Failure.Output is may says disk_still output_still = absurd (output_still refl)
    failed_completes Failure.Memory is may says disk_still output_still = memory_failed (status_failed (failed_by Failure.Memory) Failure.Memory status refl is)
    failed_completes (Failure.Log b LogFault.DiskFault) is may says disk_still output_still = absurd (disk_still b refl)
    failed_completes (Failure.Log b (LogFault.NotALog n)) is may says disk_still output_still =
        let log = logs b (says.from, says.to) in
        absurd (read_log config.cluster _ _ log.read n says.is)
    failed_completes (Failure.Log b LogFault.LogFull) is may says disk_still output_still = absurd (neither may)
    failed_completes (Failure.Log b LogFault.Memory) is may says disk_still output_still = absurd (neither may)
    failed_completes (Failure.Boot b BootFault.Memory) is may says disk_still output_still = absurd (neither may)
    failed_completes (Failure.Boot b BootFault.Epochs) is may says disk_still output_still =
        let log = logs b (says.from, says.to) in
        absurd (not_epochs config.cluster log.facts log.logged log.below (boot_fault config.cluster _ _ log.read BootFault.Epochs says.is))
    failed_completes (Failure.Boot b (BootFault.NotARun n)) is may says disk_still output_still =
        let log = logs b (says.from, says.to) in
        absurd (not_none config.cluster log.facts log.logged log.below n (boot_fault config.cluster _ _ log.read (BootFault.NotARun n) says.is))
    failed_completes (Failure.Boot b (BootFault.Room needed cells)) is may says disk_still output_still =
        elim (status_failed (failed_by (Failure.Boot b (BootFault.Room needed cells))) (Failure.Boot b (BootFault.Room needed cells)) status refl is) [
          | inl e ↦ inr (inr (e, (b, needed, cells, (says.from, says.to), says.is)))
          | inr ten ↦ inr (inl ten)
        ]
    failed_completes (Failure.Input fault) is may says disk_still output_still = absurd (neither may)
    failed_completes (Failure.Config fault) is may says disk_still output_still = absurd (neither may)
    failed_completes Failure.Centre is may says disk_still output_still = absurd (neither may)
    failed_completes Failure.Link is may says disk_still output_still = absurd (neither may)
    failed_completes Failure.Serial is may says disk_still output_still = absurd (neither may)

    found_completes : (found : Result Found Failure) (err_before err_after : Option (List ℕ)) (faults_before faults_after : ℕ)
        → AuditEnds found status err_before err_after faults_before faults_after → IfErr found Fails
        → SaysLogs (node_booted_at disk config.cluster disks) 1 config.cluster.quorums.centres found
        → GivesVerdicts (audit_of config.cluster.quorums (logs_on disk disks config.cluster)) found (held out_old) (held out_new)
        → ((a : ℕ) → found ≡ Err (Failure.Log a LogFault.DiskFault) → ⊥) → (found ≡ Err Failure.Output → ⊥) → Completed config
    found_completes (Ok Found.Verdicts) err_before err_after faults_before faults_after ends may says answers disk_still output_still =
        inl (inl (answers.0, answers.1, status_done Found.Verdicts status ends.status_is, answers.2))
    found_completes (Ok (Found.Contradiction cause a b)) err_before err_after faults_before faults_after ends may says answers disk_still output_still = elim ends [
      | inl one ↦ inl (inr (cause, a, b, answers.0, one.0, answers.1))
      | inr other ↦ inr (inl other.0)
    ]
    found_completes (Err failure) err_before err_after faults_before faults_after ends may says answers disk_still output_still =
        failed_completes failure ends.status_is may says.says (λ a e. disk_still a (ap failed_by e)) (λ e. output_still (ap failed_by e))

-- ---- by the input

pub audit_completes : {D O : Type 0} (disk : D → ℕ → Disk) (may_leave : D → ℕ → List ℕ → Type 0) (moment : D → ℕ) (left_since : D → ℕ → ℕ → List ℕ → Type 0) (tears : ℕ → Type 0) (held : O → Option (List ℕ)) (disks_old disks_new : D) (out_old out_new : O)
    (found : Result Found Failure) (status : ℕ) (err_before err_after : Option (List ℕ)) (faults_before faults_after : ℕ)
    → AuditEnds found status err_before err_after faults_before faults_after
    → (found ≡ Err (Failure.Input ReadAllFault.Failed) → ⊥) → ((a : ℕ) → found ≡ Err (Failure.Log a LogFault.DiskFault) → ⊥) → (found ≡ Err Failure.Output → ⊥)
    → (left : Option (List ℕ)) → IfSome left (λ input. RunsAudit disk may_leave moment left_since tears held disks_old disks_new out_old out_new input found)
    → AuditCompletes disk held disks_old out_old out_new left status
audit_completes {D} {O} disk may_leave moment left_since tears held disks_old disks_new out_old out_new found status err_before err_after faults_before faults_after ends input_still disk_still output_still left runs input config known is told logs =
    by_read run (accepted input config run.read is run.gives)
  where
    run : RunsAudit disk may_leave moment left_since tears held disks_old disks_new out_old out_new input found
    run = subst (λ (l : Option (List ℕ)). IfSome l (λ input. RunsAudit disk may_leave moment left_since tears held disks_old disks_new out_old out_new input found)) known runs

    by_read : (run : RunsAudit disk may_leave moment left_since tears held disks_old disks_new out_old out_new input found) → (run.read ≡ Ok config) ⊎ ((failure : Failure) × (run.read ≡ Err failure) × IsUnlucky failure)
        → Completed disk held disks_old out_old out_new status config
    by_read run (inl e) =
        let all : AuditsLogs disk may_leave moment left_since tears held disks_old disks_new out_old out_new config found =
        subst (λ (r : Result Config Failure). Audits disk may_leave moment left_since tears held disks_old disks_new out_old out_new r found) e run.audits in
        found_completes disk held disks_old out_old out_new status config logs found err_before err_after faults_before faults_after ends all.fails (all.logs told) (all.answers told) disk_still output_still
    by_read run (inr it) =
        let same : found ≡ Err it.0 = (subst (λ (r : Result Config Failure). Audits disk may_leave moment left_since tears held disks_old disks_new out_old out_new r found) it.1 run.audits).0 in
        let its : AuditEnds (Err it.0) status err_before err_after faults_before faults_after = subst (λ (r : Result Found Failure). AuditEnds r status err_before err_after faults_before faults_after) same ends in
        elim (status_failed (failed_by it.0) it.0 status refl its.status_is) [
          | inl e ↦ elim it.2.why [
            | inl failed ↦ absurd (input_still (same ∙ ap failed_by failed))
            | inr ten ↦ inr (inl (e ∙ ten))
          ]
          | inr ten ↦ inr (inl ten)
        ]
