-- How the command ends over an accepted configuration.
use Rattle.std.proofs.Common.{◌≡◌, ◌⊎◌, ◌+◌, ◌-◌, ◌<◌, ◌≤◌, ◌^◌, ◌&&◌, ◌==◌, ◌∙◌, Err, IfSome, IsTrue, List, Ok, Option, Result, ap, arith, inl, inr, refl, subst, ℕ}
use Rattle.std.specs.Io.KnownBytes.{Appends}
use Rattle.std.specs.Prelude.{is_err}
use Rattle.mdcc_log_file.specs.Both.{RoseAtOne}
use Rattle.mdcc_log_file.specs.declared.fault.LogFault.{LogFault}
use Rattle.mdcc_base.specs.declared.source.ReadAllFault.{ReadAllFault}
use Rattle.mdcc_config.specs.declared.config.Config.{Config}
use Rattle.mdcc_disks.specs.Disks.{Disk}
use Rattle.mdcc_command_dump.specs.Commands.{DumpCompletes, DumpEndsByLog, Dumps, DumpsOne, RunsDump, as_done}
use Rattle.mdcc_command_dump.specs.Dumps.{IsDumped, dump_text}
use Rattle.mdcc_command_dump.specs.declared.fault.DumpFault.{DumpFault}
use Rattle.mdcc_command_endings.proofs.Accepted.{IsUnlucky, accepted, from_true, status_done, status_failed}
use Rattle.mdcc_command_endings.proofs.LogEnds.{ends_by_logs, ends_unlucky}
use Rattle.mdcc_command_endings.specs.Completions.{CompletesAs, IsStill}
use Rattle.mdcc_command_endings.specs.Endings.{status_after}
use Rattle.mdcc_command_endings.specs.Logs.{EndsByLogs, node_booted_at}
use Rattle.mdcc_node_log.specs.Nodes.{are_stored, facts_at_boot, store_cells}
use Rattle.mdcc_command_endings.specs.declared.fault.Failure.{Failure}
use Rattle.mdcc_def_messages.specs.Spelling.{encodings_of}
use Rattle.mdcc_def_messages.specs.declared.facts.Fact.{Fact}
use Rattle.mdcc_option.specs.declared.cluster.Cluster.{Cluster}
use Rattle.mdcc_def_protocol.specs.Belongs.{is_centre}
use Rattle.mdcc_def_protocol.specs.Facts.{epoch_of}
use Rattle.mdcc_node_log.proofs.Starts.{boot-ends}
use Rattle.mdcc_node_log.specs.Logged.{AreLogged}
use Rattle.mdcc_node_log.specs.declared.fault.StartFault.{StartFault}
use Rattle.mdcc_def_rules.specs.declared.node.BootFault.{BootFault}

pub still_disks : {D : Type 0} (disk : D → ℕ → Disk) (old new : D) (a : ℕ) → ((p : ℕ) → IsStill (disk old p).faults (disk new p).faults) → RoseAtOne (disk old a) (disk new a) (disk old (a + 16)) (disk new (a + 16)) → ⊥
still_disks disk old new a still (inl rose) = still a rose
still_disks disk old new a still (inr rose) = still (a + 16) rose

-- allowed facts with an epoch below the last give a node where its cells suffice
module _ (cluster : Cluster) (facts : List Fact) (are : AreLogged cluster facts) (below : epoch_of facts < 2 ^ 32 - 1) where
  not_epochs : facts_at_boot cluster (encodings_of facts) ≡ Err BootFault.Epochs → ⊥
  not_epochs is =
      let past : 2 ^ 32 - 1 ≤ epoch_of facts = boot-ends are_stored store_cells cluster.cells cluster 1 facts (encodings_of facts) refl are BootFault.Epochs is in
      omega (below, past, arith)

  not_none : (n : ℕ) → facts_at_boot cluster (encodings_of facts) ≡ Err (BootFault.NotARun n) → ⊥
  not_none n is = boot-ends are_stored store_cells cluster.cells cluster 1 facts (encodings_of facts) refl are (BootFault.NotARun n) is

module _ {D O : Type 0} (disk : D → ℕ → Disk) (held : O → Option (List ℕ)) (disks_old disks_new : D) (out_old out_new : O)
    (dumped : Result (Unit {0}) Failure) (status : ℕ) (status_is : (status ≡ status_after dumped) ⊎ IsTrue (is_err dumped && status == 10))
  where
    -- ---- by its log

    pub dump_ends : (left : Option (List ℕ)) (centre : ℕ) → IfSome left (λ input. RunsDump disk held disks_old disks_new out_old out_new input centre dumped)
        → DumpEndsByLog disk held disks_old disks_new out_old out_new left centre status
    dump_ends left centre runs input config known is there told = by_read run (accepted input config run.read is run.gives)
      where
        run : RunsDump disk held disks_old disks_new out_old out_new input centre dumped
        run = subst (λ (l : Option (List ℕ)). IfSome l (λ input. RunsDump disk held disks_old disks_new out_old out_new input centre dumped)) known runs

        by_read : (run : RunsDump disk held disks_old disks_new out_old out_new input centre dumped) → (run.read ≡ Ok config) ⊎ ((failure : Failure) × (run.read ≡ Err failure) × IsUnlucky failure)
            → EndsByLogs (node_booted_at disk config.cluster disks_old) centre centre status
        by_read run (inl e) =
            let one : DumpsOne disk held disks_old disks_new out_old out_new config centre dumped =
            from_true (is_centre config.cluster centre) _ _ there (subst (λ (r : Result Config Failure). Dumps disk held disks_old disks_new out_old out_new r centre dumped) e run.dumps) in
            ends_by_logs (node_booted_at disk config.cluster disks_old) centre centre dumped status status_is (one.logs told)
        by_read run (inr it) =
            let same : dumped ≡ Err it.0 = (subst (λ (r : Result Config Failure). Dumps disk held disks_old disks_new out_old out_new r centre dumped) it.1 run.dumps).0 in
            ends_unlucky (node_booted_at disk config.cluster disks_old) centre centre dumped it.0 status same status_is it.2

    -- ---- where nothing failed

    module _ (input_still : dumped ≡ Err (Failure.Input ReadAllFault.Failed) → ⊥) (disk_still : (a : ℕ) → dumped ≡ Err (Failure.Log a LogFault.DiskFault) → ⊥) (output_still : dumped ≡ Err Failure.Output → ⊥) where
      unlucky_ends : (failure : Failure) (whole limit : Type 0) → dumped ≡ Err failure → IsUnlucky failure → CompletesAs status whole limit
      unlucky_ends failure whole limit is unlucky = elim (status_failed dumped failure status is status_is) [
        | inl e ↦ elim unlucky.why [
          | inl failed ↦ absurd (input_still (is ∙ ap (λ (f : Failure). let err : Result (Unit {0}) Failure = Err f in err) failed))
          | inr ten ↦ inr (inl (e ∙ ten))
        ]
        | inr ten ↦ inr (inl ten)
      ]

      memory_ends : (whole limit : Type 0) → dumped ≡ Err Failure.Memory → CompletesAs status whole limit
      memory_ends whole limit is = elim (status_failed dumped Failure.Memory status is status_is) [
        | inl e ↦ inr (inl e)
        | inr ten ↦ inr (inl ten)
      ]

      module _ (cluster : Cluster) (facts : List Fact) (are : AreLogged cluster facts) (below : epoch_of facts < 2 ^ 32 - 1) (centre : ℕ) where
        abbrev Whole : Type 0
        Whole = Appends (held out_old) (held out_new) (dump_text (encodings_of facts))

        abbrev Limit : Type 0
        Limit = (needed : ℕ) × (cells : ℕ) × (facts_at_boot cluster (encodings_of facts) ≡ Err (BootFault.Room needed cells))

        result_ends : (result : Result (Unit {0}) DumpFault) → dumped ≡ as_done centre result → IsDumped cluster (encodings_of facts) result (held out_old) (held out_new) → CompletesAs status Whole Limit
        result_ends (Ok done) is dump =
            inl (status_done done status (subst (λ (r : Result (Unit {0}) Failure). (status ≡ status_after r) ⊎ IsTrue (is_err r && status == 10)) is status_is), dump.1)
        result_ends (Err (DumpFault.Log (StartFault.Log LogFault.DiskFault))) is dump = absurd (disk_still centre is)
        result_ends (Err (DumpFault.Log (StartFault.Log (LogFault.NotALog n)))) is dump = absurd dump.0
        result_ends (Err (DumpFault.Log (StartFault.Log LogFault.LogFull))) is dump = absurd dump.0
        result_ends (Err (DumpFault.Log (StartFault.Log LogFault.Memory))) is dump = absurd dump.0
        result_ends (Err (DumpFault.Log (StartFault.Boot BootFault.Memory))) is dump = absurd dump.0
        result_ends (Err (DumpFault.Log (StartFault.Boot BootFault.Epochs))) is dump = absurd (not_epochs cluster facts are below dump.0)
        result_ends (Err (DumpFault.Log (StartFault.Boot (BootFault.NotARun n)))) is dump = absurd (not_none cluster facts are below n dump.0)
        result_ends (Err (DumpFault.Log (StartFault.Boot (BootFault.Room needed cells)))) is dump = elim (status_failed dumped (Failure.Boot centre (BootFault.Room needed cells)) status is status_is) [
          | inl e ↦ inr (inr (e, (needed, cells, dump.0)))
          | inr ten ↦ inr (inl ten)
        ]
        result_ends (Err (DumpFault.Log StartFault.Memory)) is dump = memory_ends Whole Limit is
        result_ends (Err DumpFault.Output) is dump = absurd (output_still is)
        result_ends (Err DumpFault.Memory) is dump = memory_ends Whole Limit is

      pub dump_completes : (left : Option (List ℕ)) (centre : ℕ) → IfSome left (λ input. RunsDump disk held disks_old disks_new out_old out_new input centre dumped)
          → DumpCompletes disk held disks_old disks_new out_old out_new left centre status
      dump_completes left centre runs input config facts known is there told read are below = by_read run (accepted input config run.read is run.gives)
        where
          run : RunsDump disk held disks_old disks_new out_old out_new input centre dumped
          run = subst (λ (l : Option (List ℕ)). IfSome l (λ input. RunsDump disk held disks_old disks_new out_old out_new input centre dumped)) known runs

          by_read : (run : RunsDump disk held disks_old disks_new out_old out_new input centre dumped) → (run.read ≡ Ok config) ⊎ ((failure : Failure) × (run.read ≡ Err failure) × IsUnlucky failure)
              → CompletesAs status (Whole config.cluster facts are below centre) (Limit config.cluster facts are below centre)
          by_read run (inl e) =
              let one : DumpsOne disk held disks_old disks_new out_old out_new config centre dumped =
              from_true (is_centre config.cluster centre) _ _ there (subst (λ (r : Result Config Failure). Dumps disk held disks_old disks_new out_old out_new r centre dumped) e run.dumps) in
              result_ends config.cluster facts are below centre one.result one.is (one.dumps (encodings_of facts) told.first told.second read).0
          by_read run (inr it) =
              let same : dumped ≡ Err it.0 = (subst (λ (r : Result Config Failure). Dumps disk held disks_old disks_new out_old out_new r centre dumped) it.1 run.dumps).0 in
              unlucky_ends it.0 (Whole config.cluster facts are below centre) (Limit config.cluster facts are below centre) same it.2
