-- How a command that serves nodes ends over an accepted configuration.
use Rattle.std.proofs.Common.{◌≡◌, ◌⊎◌, ◌≤◌, ◌<◌, ◌+◌, ◌-◌, ◌&&◌, ◌==◌, ◌∷◌, [], Err, IfSome, IsTrue, List, Ok, Option, Result, map, length, arith, inl, inr, refl, subst, ◌∙◌, ap, ℕ}
use Rattle.std.proofs.lemmas.Bool.{cases_eq}
use Rattle.std.specs.List.{AllByRecursion, range_with_len}
use Rattle.std.specs.Prelude.{is_err}
use Rattle.mdcc_log_file.specs.Both.{RoseAtOne}
use Rattle.mdcc_log_file.specs.declared.fault.LogFault.{LogFault}
use Rattle.mdcc_base.specs.declared.source.ReadAllFault.{ReadAllFault}
use Rattle.mdcc_config.specs.declared.config.Config.{Config}
use Rattle.mdcc_disks.specs.Disks.{Disk}
use Rattle.mdcc_command_endings.proofs.Accepted.{IsUnlucky, accepted, from_true, status_done, status_failed}
use Rattle.mdcc_command_endings.proofs.LogEnds.{ends_by_logs, ends_unlucky}
use Rattle.mdcc_command_endings.specs.Completions.{CompletesAs, IsStill}
use Rattle.mdcc_command_endings.specs.Endings.{failure_status, status_after}
use Rattle.mdcc_command_endings.specs.Logs.{AreAreasTold, EndsByLogs, IsFirstRefused, LogRefusal, SaysLogs, node_booted_at}
use Rattle.mdcc_command_endings.specs.declared.fault.Failure.{Failure}
use Rattle.mdcc_link.specs.Link.{LinkCall}
use Rattle.mdcc_def_messages.specs.declared.facts.Fact.{Fact}
use Rattle.mdcc_option.specs.declared.cluster.Cluster.{Cluster}
use Rattle.mdcc_def_protocol.specs.Belongs.{is_centre}
use Rattle.mdcc_def_rules.specs.declared.node.BootFault.{BootFault}
use Rattle.mdcc_def_server_runs.specs.Servers.{Log}
use Rattle.mdcc_serve.proofs.Ended.{follow_range, many_range}
use Rattle.mdcc_serve.specs.Serving.{AreLogsOf, BreaksOff, IsServedLog, ServesOrBreaksOff}
use Rattle.mdcc_serve.specs.Starts.{Follow}
use Rattle.mdcc_serve.specs.declared.served.Served.{Served}
use Rattle.mdcc_command_serve.specs.Commands.{AllAreTold, RunsCluster, RunsNode, ServesAll, ServesCluster, ServesNode, ServesOne, as_served, failure_of}
use Rattle.mdcc_command_serve.specs.Completions.{ClusterCompletes, ClusterEndsByLogs, EndsAtLimit, IsBelowLast, NodeCompletes, NodeEndsByLog, ServesAllTurns}
use Rattle.mdcc_serve_site.specs.Causes.{IsBootRefused}
use Rattle.mdcc_serve_site.specs.declared.fault.ServeFault.{ServeFault}

-- ---- disks of which no count rose

pub still_disks : {D : Type 0} (disk : D → ℕ → Disk) (old new : D) (a : ℕ) → ((p : ℕ) → IsStill (disk old p).faults (disk new p).faults) → RoseAtOne (disk old a) (disk new a) (disk old (a + 16)) (disk new (a + 16)) → ⊥
still_disks disk old new a still (inl rose) = still a rose
still_disks disk old new a still (inr rose) = still (a + 16) rose

-- ---- the log of a centre among several

of_number : (n a : ℕ) (logs : List Log) (P Q : Log → Type 0) → Follow n logs → n ≤ a → a < n + length logs → AllByRecursion P logs → AllByRecursion (λ log. log.centre ≡ a → Q log) logs
    → (log : Log) × (log.centre ≡ a) × P log × Q log
of_number n a [] P Q follow low high each at = absurd (omega (low, high, arith))
of_number n a (log ∷ logs) P Q follow low high each at = elim (cases_eq n a) [
  | inl same ↦ let of : log.centre ≡ a = follow.0 ∙ same in (log, of, each.0, at.0 of)
  | inr other ↦ of_number (n + 1) a logs P Q follow.1 (omega (low, other, arith)) (omega (high, arith)) each.1 at.1
]

any_at : (a : ℕ) (logs : List Log) → AllByRecursion (λ log. log.centre ≡ a → Unit {0}) logs
any_at a [] = tt
any_at a (log ∷ logs) = (λ of. tt, any_at a logs)

told_at : {D : Type 0} (disk : D → ℕ → Disk) (cluster : Cluster) (disks : D) (log : Log) (a : ℕ) → log.centre ≡ a → IsServedLog disk cluster disks log → AreAreasTold disk disks a
told_at disk cluster disks log a of is = subst (AreAreasTold disk disks) of (record { first = is.told; second = is.told_other })

pub all_told : {D : Type 0} (disk : D → ℕ → Disk) (cluster : Cluster) (disks : D) (logs : List Log) → map (λ log. log.centre) logs ≡ range_with_len 1 cluster.quorums.centres → AreLogsOf disk cluster disks logs
    → AllAreTold disk cluster disks
all_told disk cluster disks logs numbers are a low high =
    let many = many_range 1 cluster.quorums.centres logs numbers in
    let it = of_number 1 a logs (IsServedLog disk cluster disks) (λ log. Unit {0}) (follow_range 1 cluster.quorums.centres logs numbers) low (omega (high, many, arith)) are (any_at a logs) in
    told_at disk cluster disks it.0 a it.1 it.2

-- its boot is refused for want of cells alone
only_room : (cluster : Cluster) (log : Log) (why : BootFault) (P : Type 0) → IsBelowLast log → IsBootRefused cluster log.facts why → ((needed cells : ℕ) → why ≡ BootFault.Room needed cells → P) → P
only_room cluster log BootFault.Epochs P below refused room = absurd (omega (below, refused, arith))
only_room cluster log (BootFault.NotARun n) P below refused room = absurd refused
only_room cluster log (BootFault.Room needed cells) P below refused room = room needed cells refl
only_room cluster log BootFault.Memory P below refused room = absurd refused

-- ---- the status

module _ {D L O : Type 0} (disk : D → ℕ → Disk) (may_leave : D → ℕ → List ℕ → Type 0) (tears : ℕ → Type 0) (calls : L → Option (List LinkCall)) (lost : L → ℕ) (held : O → Option (List ℕ)) (disks_old disks_new : D) (link_old link_new : L) (out_old out_new : O)
    (served : Result Served Failure) (status : ℕ) (status_is : (status ≡ status_after served) ⊎ IsTrue (is_err served && status == 10))
  where
    -- ---- by the logs

    pub node_ends : (left : Option (List ℕ)) (centre turns : ℕ) → IfSome left (λ input. RunsNode disk may_leave tears calls lost held disks_old disks_new link_old link_new out_old out_new input centre turns served)
        → NodeEndsByLog disk disks_old left centre status
    node_ends left centre turns runs input config known is there told = by_read run (accepted input config run.read is run.gives)
      where
        run : RunsNode disk may_leave tears calls lost held disks_old disks_new link_old link_new out_old out_new input centre turns served
        run = subst (λ (l : Option (List ℕ)). IfSome l (λ input. RunsNode disk may_leave tears calls lost held disks_old disks_new link_old link_new out_old out_new input centre turns served)) known runs

        by_read : (run : RunsNode disk may_leave tears calls lost held disks_old disks_new link_old link_new out_old out_new input centre turns served)
            → (run.read ≡ Ok config) ⊎ ((failure : Failure) × (run.read ≡ Err failure) × IsUnlucky failure) → EndsByLogs (node_booted_at disk config.cluster disks_old) centre centre status
        by_read run (inl e) =
            let one : ServesOne disk may_leave tears calls lost held disks_old disks_new link_old link_new out_old out_new config centre turns served =
            from_true (is_centre config.cluster centre) _ _ there (subst (λ (r : Result Config Failure). ServesNode disk may_leave tears calls lost held disks_old disks_new link_old link_new out_old out_new r centre turns served) e run.serves) in
            ends_by_logs (node_booted_at disk config.cluster disks_old) centre centre served status status_is (one.logs told)
        by_read run (inr it) =
            let same : served ≡ Err it.0 = (subst (λ (r : Result Config Failure). ServesNode disk may_leave tears calls lost held disks_old disks_new link_old link_new out_old out_new r centre turns served) it.1 run.serves).0 in
            ends_unlucky (node_booted_at disk config.cluster disks_old) centre centre served it.0 status same status_is it.2

    pub cluster_ends : (left : Option (List ℕ)) (turns : ℕ) → IfSome left (λ input. RunsCluster disk may_leave tears calls lost held disks_old disks_new link_old link_new out_old out_new input turns served)
        → ClusterEndsByLogs disk disks_old left status
    cluster_ends left turns runs input config known is told = by_read run (accepted input config run.read is run.gives)
      where
        run : RunsCluster disk may_leave tears calls lost held disks_old disks_new link_old link_new out_old out_new input turns served
        run = subst (λ (l : Option (List ℕ)). IfSome l (λ input. RunsCluster disk may_leave tears calls lost held disks_old disks_new link_old link_new out_old out_new input turns served)) known runs

        by_read : (run : RunsCluster disk may_leave tears calls lost held disks_old disks_new link_old link_new out_old out_new input turns served)
            → (run.read ≡ Ok config) ⊎ ((failure : Failure) × (run.read ≡ Err failure) × IsUnlucky failure) → EndsByLogs (node_booted_at disk config.cluster disks_old) 1 config.cluster.quorums.centres status
        by_read run (inl e) =
            let all : ServesAll disk may_leave tears calls lost held disks_old disks_new link_old link_new out_old out_new config turns served =
            subst (λ (r : Result Config Failure). ServesCluster disk may_leave tears calls lost held disks_old disks_new link_old link_new out_old out_new r turns served) e run.serves in
            ends_by_logs (node_booted_at disk config.cluster disks_old) 1 config.cluster.quorums.centres served status status_is (all.logs told)
        by_read run (inr it) =
            let same : served ≡ Err it.0 = (subst (λ (r : Result Config Failure). ServesCluster disk may_leave tears calls lost held disks_old disks_new link_old link_new out_old out_new r turns served) it.1 run.serves).0 in
            ends_unlucky (node_booted_at disk config.cluster disks_old) 1 config.cluster.quorums.centres served it.0 status same status_is it.2

    -- ---- where nothing failed

    module _ (input_still : served ≡ Err (Failure.Input ReadAllFault.Failed) → ⊥) (disk_still : (a : ℕ) → served ≡ Err (Failure.Log a LogFault.DiskFault) → ⊥) (link_still : served ≡ Err Failure.Link → ⊥) (output_still : served ≡ Err Failure.Output → ⊥) where
      -- its configuration was not read
      unlucky_ends : (failure : Failure) (whole limit : Type 0) → served ≡ Err failure → IsUnlucky failure → CompletesAs status whole limit
      unlucky_ends failure whole limit is unlucky = elim (status_failed served failure status is status_is) [
        | inl e ↦ elim unlucky.why [
          | inl failed ↦ absurd (input_still (is ∙ ap (λ (f : Failure). let err : Result Served Failure = Err f in err) failed))
          | inr ten ↦ inr (inl (e ∙ ten))
        ]
        | inr ten ↦ inr (inl ten)
      ]

      -- it was, and its centres were served
      module _ (config : Config) (logs : List Log) (turns : ℕ) where
        abbrev Whole : Type 0
        Whole = ServesAllTurns disk may_leave tears calls lost held disks_old disks_new link_old link_new out_old out_new config logs turns

        abbrev Limit : Type 0
        Limit = EndsAtLimit disk may_leave tears calls lost held disks_old disks_new link_old link_new out_old out_new config logs turns

        abbrev Breaks : ServeFault → Type 0
        Breaks fault = BreaksOff disk may_leave tears calls lost held config logs turns fault disks_old disks_new link_old link_new out_old out_new

        at_limit : (failure : Failure) → served ≡ Err failure → failure_status failure ≡ 11 → Limit → CompletesAs status Whole Limit
        at_limit failure is eleven limit = elim (status_failed served failure status is status_is) [
          | inl e ↦ inr (inr (e ∙ eleven, limit))
          | inr ten ↦ inr (inl ten)
        ]

        fault_ends : (fault : ServeFault) → served ≡ Err (failure_of fault) → Breaks fault
            → ((a : ℕ) (why : BootFault) → fault ≡ ServeFault.Boot a why → (log : Log) × IsBelowLast log × IsBootRefused config.cluster log.facts why) → CompletesAs status Whole Limit
        fault_ends (ServeFault.Disk a) is breaks boots = absurd (disk_still a is)
        fault_ends ServeFault.Link is breaks boots = absurd (link_still is)
        fault_ends ServeFault.Output is breaks boots = absurd (output_still is)
        fault_ends (ServeFault.Log a LogFault.LogFull) is breaks boots = at_limit (Failure.Log a LogFault.LogFull) is refl (_, tt, breaks)
        fault_ends (ServeFault.Log a LogFault.DiskFault) is breaks boots = absurd breaks.comes
        fault_ends (ServeFault.Log a (LogFault.NotALog n)) is breaks boots = absurd breaks.comes
        fault_ends (ServeFault.Log a LogFault.Memory) is breaks boots = absurd breaks.comes
        fault_ends (ServeFault.Boot a why) is breaks boots =
            let log = boots a why refl in
            only_room config.cluster log.0 why (CompletesAs status Whole Limit) log.1 log.2 (λ needed cells room. by_room needed cells room)
          where
            by_room : (needed cells : ℕ) → why ≡ BootFault.Room needed cells → CompletesAs status Whole Limit
            by_room needed cells room =
                at_limit (Failure.Boot a (BootFault.Room needed cells)) (is ∙ ap (λ (w : BootFault). let err : Result Served Failure = Err (Failure.Boot a w) in err) room) refl
                (ServeFault.Boot a (BootFault.Room needed cells), tt, subst (λ (w : BootFault). Breaks (ServeFault.Boot a w)) room breaks)
        fault_ends ServeFault.Serial is breaks boots = at_limit Failure.Serial is refl (ServeFault.Serial, tt, breaks)
        fault_ends ServeFault.Memory is breaks boots = elim (status_failed served Failure.Memory status is status_is) [
          | inl e ↦ inr (inl e)
          | inr ten ↦ inr (inl ten)
        ]

        server_ends : (result : Result Served ServeFault) → served ≡ as_served result
            → ServesOrBreaksOff disk may_leave tears calls lost held config logs turns result disks_old disks_new link_old link_new out_old out_new
            → ((a : ℕ) (why : BootFault) → result ≡ Err (ServeFault.Boot a why) → (log : Log) × IsBelowLast log × IsBootRefused config.cluster log.facts why) → CompletesAs status Whole Limit
        server_ends (Ok done) is serves boots =
            inl (status_done done status (subst (λ (r : Result Served Failure). (status ≡ status_after r) ⊎ IsTrue (is_err r && status == 10)) is status_is), (done, serves))
        server_ends (Err fault) is breaks boots = fault_ends fault is breaks (λ a why same. boots a why (ap (λ (f : ServeFault). let err : Result Served ServeFault = Err f in err) same))

      -- the failure of a boot is of a centre among them
      refused_number : (node : ℕ → Result (List Fact) LogRefusal) (first last a : ℕ) (why : BootFault) (result : Result Served ServeFault) → served ≡ as_served result → result ≡ Err (ServeFault.Boot a why) → SaysLogs node first last served
          → IsFirstRefused node first last a (LogRefusal.NoNode why)
      refused_number node first last a why result is same says =
          let e : served ≡ Err (Failure.Boot a why) = is ∙ ap as_served same in
          (subst (λ (r : Result Served Failure). SaysLogs node first last r) e says).says

      pub node_completes : (left : Option (List ℕ)) (centre turns : ℕ) → IfSome left (λ input. RunsNode disk may_leave tears calls lost held disks_old disks_new link_old link_new out_old out_new input centre turns served)
          → NodeCompletes disk may_leave tears calls lost held disks_old disks_new link_old link_new out_old out_new left centre turns status
      node_completes left centre turns runs input config log known is there of are below = by_read run (accepted input config run.read is run.gives)
        where
          run : RunsNode disk may_leave tears calls lost held disks_old disks_new link_old link_new out_old out_new input centre turns served
          run = subst (λ (l : Option (List ℕ)). IfSome l (λ input. RunsNode disk may_leave tears calls lost held disks_old disks_new link_old link_new out_old out_new input centre turns served)) known runs

          refused_log : (one : ServesOne disk may_leave tears calls lost held disks_old disks_new link_old link_new out_old out_new config centre turns served) (a : ℕ) (why : BootFault) → one.result ≡ Err (ServeFault.Boot a why)
              → (log : Log) × IsBelowLast log × IsBootRefused config.cluster log.facts why
          refused_log one a why same =
              let first = refused_number (node_booted_at disk config.cluster disks_old) centre centre a why one.result one.is same (one.logs (told_at disk config.cluster disks_old log centre of are)) in
              let low = first.from in
              let high = first.to in
              let breaks = subst (λ (r : Result Served ServeFault). ServesOrBreaksOff disk may_leave tears calls lost held config (log ∷ []) turns r disks_old disks_new link_old link_new out_old out_new) same (one.serves log of are) in
              (log, below, breaks.boots.0 (omega (low, high, of, arith)))

          by_read : (run : RunsNode disk may_leave tears calls lost held disks_old disks_new link_old link_new out_old out_new input centre turns served)
              → (run.read ≡ Ok config) ⊎ ((failure : Failure) × (run.read ≡ Err failure) × IsUnlucky failure)
              → CompletesAs status (Whole config (log ∷ []) turns) (Limit config (log ∷ []) turns)
          by_read run (inl e) =
              let one : ServesOne disk may_leave tears calls lost held disks_old disks_new link_old link_new out_old out_new config centre turns served =
              from_true (is_centre config.cluster centre) _ _ there (subst (λ (r : Result Config Failure). ServesNode disk may_leave tears calls lost held disks_old disks_new link_old link_new out_old out_new r centre turns served) e run.serves) in
              server_ends config (log ∷ []) turns one.result one.is (one.serves log of are) (refused_log one)
          by_read run (inr it) =
              let same : served ≡ Err it.0 = (subst (λ (r : Result Config Failure). ServesNode disk may_leave tears calls lost held disks_old disks_new link_old link_new out_old out_new r centre turns served) it.1 run.serves).0 in
              unlucky_ends it.0 (Whole config (log ∷ []) turns) (Limit config (log ∷ []) turns) same it.2

      pub cluster_completes : (left : Option (List ℕ)) (turns : ℕ) → IfSome left (λ input. RunsCluster disk may_leave tears calls lost held disks_old disks_new link_old link_new out_old out_new input turns served)
          → ClusterCompletes disk may_leave tears calls lost held disks_old disks_new link_old link_new out_old out_new left turns status
      cluster_completes left turns runs input config logs known is numbers are below = by_read run (accepted input config run.read is run.gives)
        where
          run : RunsCluster disk may_leave tears calls lost held disks_old disks_new link_old link_new out_old out_new input turns served
          run = subst (λ (l : Option (List ℕ)). IfSome l (λ input. RunsCluster disk may_leave tears calls lost held disks_old disks_new link_old link_new out_old out_new input turns served)) known runs

          refused_log : (all : ServesAll disk may_leave tears calls lost held disks_old disks_new link_old link_new out_old out_new config turns served) (a : ℕ) (why : BootFault) → all.result ≡ Err (ServeFault.Boot a why)
              → (log : Log) × IsBelowLast log × IsBootRefused config.cluster log.facts why
          refused_log all a why same =
              let centres = config.cluster.quorums.centres in
              let first = refused_number (node_booted_at disk config.cluster disks_old) 1 centres a why all.result all.is same (all.logs (all_told disk config.cluster disks_old logs numbers are)) in
              let low = first.from in
              let high = first.to in
              let many = many_range 1 centres logs numbers in
              let breaks = subst (λ (r : Result Served ServeFault). ServesOrBreaksOff disk may_leave tears calls lost held config logs turns r disks_old disks_new link_old link_new out_old out_new) same (all.serves logs numbers are) in
              let it = of_number 1 a logs IsBelowLast (λ log. IsBootRefused config.cluster log.facts why) (follow_range 1 centres logs numbers) low (omega (high, many, arith)) below breaks.boots in
              (it.0, it.2, it.3)

          by_read : (run : RunsCluster disk may_leave tears calls lost held disks_old disks_new link_old link_new out_old out_new input turns served)
              → (run.read ≡ Ok config) ⊎ ((failure : Failure) × (run.read ≡ Err failure) × IsUnlucky failure)
              → CompletesAs status (Whole config logs turns) (Limit config logs turns)
          by_read run (inl e) =
              let all : ServesAll disk may_leave tears calls lost held disks_old disks_new link_old link_new out_old out_new config turns served =
              subst (λ (r : Result Config Failure). ServesCluster disk may_leave tears calls lost held disks_old disks_new link_old link_new out_old out_new r turns served) e run.serves in
              server_ends config logs turns all.result all.is (all.serves logs numbers are) (refused_log all)
          by_read run (inr it) =
              let same : served ≡ Err it.0 = (subst (λ (r : Result Config Failure). ServesCluster disk may_leave tears calls lost held disks_old disks_new link_old link_new out_old out_new r turns served) it.1 run.serves).0 in
              unlucky_ends it.0 (Whole config logs turns) (Limit config logs turns) same it.2
