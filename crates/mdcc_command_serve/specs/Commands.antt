-- What the commands that serve nodes do.
use Rattle.std.specs.List.{range_with_len}
use Rattle.std.specs.Prelude.{Err, IfErr, IfSome, IsErrAnd, IsErrOf, List, MatchBool, Ok, Option, Result, [], map, ⊤, ℕ, ◌+◌, ◌≡◌, ◌∷◌, ◌≤◌}
use Rattle.mdcc_log_file.specs.Both.{RoseAtOne}
use Rattle.mdcc_log_file.specs.declared.fault.LogFault.{LogFault}
use Rattle.mdcc_config.specs.declared.config.Config.{Config}
use Rattle.mdcc_disks.specs.Disks.{Disk}
use Rattle.mdcc_link.specs.Link.{LinkCall}
use Rattle.mdcc_def_protocol.specs.Belongs.{is_centre}
use Rattle.mdcc_def_server_runs.specs.Servers.{Log}
use Rattle.mdcc_serve.specs.Others.{KeepsUnserved}
use Rattle.mdcc_serve.specs.Refusals.{LacksNode}
use Rattle.mdcc_serve.specs.Serving.{AreLogsOf, IsServedLog, ServesOrBreaksOff}
use Rattle.mdcc_serve_site.specs.Moments.{KeepsOthers}
use Rattle.mdcc_serve.specs.Stays.{HasRefused, NeverServed}
use Rattle.mdcc_serve_site.specs.declared.fault.ServeFault.{ServeFault}
use Rattle.mdcc_serve.specs.declared.served.Served.{Served}
use Rattle.mdcc_command_endings.specs.Endings.{EndsWithStatus}
use Rattle.mdcc_command_endings.specs.Logs.{AreAreasTold, SaysLogs, node_booted_at}
use Rattle.mdcc_option.specs.declared.cluster.Cluster.{Cluster}
use Rattle.mdcc_command_endings.specs.Readings.{GivesConfig}
use Rattle.mdcc_command_endings.specs.declared.fault.Failure.{Failure}

-- both areas of each log tell their bytes, or neither does
abbrev pub AreToldAlike : {D : Type 0} → (D → ℕ → Disk) → D → Type 0
AreToldAlike disk disks = (a : ℕ) → 1 ≤ a → a ≤ 9 → (disk disks (a + 16)).told ≡ (disk disks a).told

-- both areas of each centre tell their bytes
abbrev pub AllAreTold : {D : Type 0} → (D → ℕ → Disk) → Cluster → D → Type 0
AllAreTold disk cluster disks = (a : ℕ) → 1 ≤ a → a ≤ cluster.quorums.centres → AreAreasTold disk disks a

-- a log is refused
abbrev pub IsRefusal : Failure → Type 0
IsRefusal (Failure.Log a (LogFault.NotALog offset)) = ⊤
IsRefusal (Failure.Boot a why) = ⊤
IsRefusal failure = ⊥

-- nothing was done at disks, link and output
pub record UntouchedOutside {D L O : Type 0} (disks_old disks_new : D) (link_old link_new : L) (out_old out_new : O) : Type 0 where
  pub disks : disks_new ≡ disks_old
  pub link : link_new ≡ link_old
  pub output : out_new ≡ out_old

-- a fault as a command has it
abbrev pub failure_of : ServeFault → Failure
failure_of (ServeFault.Disk a) = Failure.Log a LogFault.DiskFault
failure_of ServeFault.Link = Failure.Link
failure_of ServeFault.Output = Failure.Output
failure_of (ServeFault.Log a fault) = Failure.Log a fault
failure_of (ServeFault.Boot a fault) = Failure.Boot a fault
failure_of ServeFault.Serial = Failure.Serial
failure_of ServeFault.Memory = Failure.Memory

abbrev pub as_served : Result Served ServeFault → Result Served Failure
as_served (Ok served) = Ok served
as_served (Err fault) = Err (failure_of fault)

module _ {D L O : Type 0} (disk : D → ℕ → Disk) (may_leave : D → ℕ → List ℕ → Type 0) (tears : ℕ → Type 0) (calls : L → Option (List LinkCall)) (lost : L → ℕ) (held : O → Option (List ℕ)) (disks_old disks_new : D) (link_old link_new : L) (out_old out_new : O) where
  -- a failed disk is said to be one of this centre only where the count of faults of one of its two rose
  abbrev pub OnDisk : Result Served Failure → Type 0
  OnDisk served = (a : ℕ) → IsErrOf served (Failure.Log a LogFault.DiskFault) → RoseAtOne (disk disks_old a) (disk disks_new a) (disk disks_old (a + 16)) (disk disks_new (a + 16))

  -- ---- one centre

  -- what the server of this centre did over a log of its that tells its bytes
  pub record ServesOne (config : Config) (centre turns : ℕ) (served : Result Served Failure) : Type 0 where
    pub result : Result Served ServeFault
    pub is : served ≡ as_served result
    pub serves : (log : Log) → log.centre ≡ centre → IsServedLog disk config.cluster disks_old log
        → ServesOrBreaksOff disk may_leave tears calls lost held config (log ∷ []) turns result disks_old disks_new link_old link_new out_old out_new
    -- whatever its disks tell, its log is refused just where no node boots from it
    pub logs : AreAreasTold disk disks_old centre → SaysLogs (node_booted_at disk config.cluster disks_old) centre centre served
    -- Then nothing was bound, sent or printed, and the log stands as it was, perhaps with its own new boot.
    pub refused : IfErr served (λ failure. IsRefusal failure → AreAreasTold disk disks_old centre
        → HasRefused disk may_leave tears calls lost config.cluster centre (centre + 1) disks_old disks_new link_old link_new out_old out_new)
    -- Where no node boots from its log so it is however it ended, but that a log stands only where no call of a disk failed.
    pub unserved : LacksNode disk config.cluster disks_old centre (centre + 1)
        → IsErrAnd result (NeverServed disk may_leave tears config.checkpoint calls lost config.cluster centre (centre + 1) disks_old disks_new link_old link_new out_old out_new)

  -- it ended before anything was done
  abbrev pub IsEarlyAt : Failure → Result Served Failure → Type 0
  IsEarlyAt failure served = (served ≡ Err failure) × UntouchedOutside disks_old disks_new link_old link_new out_old out_new

  -- by what the input was read as
  abbrev pub ServesNode : Result Config Failure → ℕ → ℕ → Result Served Failure → Type 0
  ServesNode (Ok config) centre turns served =
      MatchBool (is_centre config.cluster centre) (ServesOne config centre turns served) (IsEarlyAt Failure.Centre served)
  ServesNode (Err failure) centre turns served = IsEarlyAt failure served

  -- `node K TURNS`
  pub record RunsNode (input : List ℕ) (centre turns : ℕ) (served : Result Served Failure) : Type 0 where
    pub read : Result Config Failure
    pub gives : GivesConfig input read
    pub serves : ServesNode read centre turns served

  -- The command ended as its server did.
  pub record DoesNode (left : Option (List ℕ)) (centre turns status : ℕ) (err_before err_after : Option (List ℕ)) (faults_before faults_after : ℕ) : Type 0 where
    pub served : Result Served Failure
    pub ends : EndsWithStatus served status err_before err_after faults_before faults_after
    pub runs : IfSome left (λ input. RunsNode input centre turns served)
    pub failed_disk : OnDisk served
    -- the disks of other centres are as they were, whatever the input and the logs are
    pub others : KeepsOthers disk may_leave centre disks_old disks_new

  -- ---- all centres

  -- what the server of all centres did over logs that tell their bytes
  pub record ServesAll (config : Config) (turns : ℕ) (served : Result Served Failure) : Type 0 where
    pub result : Result Served ServeFault
    pub is : served ≡ as_served result
    pub serves : (logs : List Log) → map (λ log. log.centre) logs ≡ range_with_len 1 config.cluster.quorums.centres
        → AreLogsOf disk config.cluster disks_old logs
        → ServesOrBreaksOff disk may_leave tears calls lost held config logs turns result disks_old disks_new link_old link_new out_old out_new
    -- whatever their disks tell, the first log is refused from which no node boots
    pub logs : AllAreTold disk config.cluster disks_old → SaysLogs (node_booted_at disk config.cluster disks_old) 1 config.cluster.quorums.centres served
    -- Then nothing was bound, sent or printed, and all logs stand as they were, each perhaps with its own new boot.
    pub refused : IfErr served (λ failure. IsRefusal failure → AllAreTold disk config.cluster disks_old
        → HasRefused disk may_leave tears calls lost config.cluster 1 (config.cluster.quorums.centres + 1) disks_old disks_new link_old link_new out_old out_new)
    -- Where no node boots from one of the logs so it is however it ended, but that the logs stand only where no call of a disk failed; a
    -- log is said to be full then only where it has no room for its boot.
    pub unserved : LacksNode disk config.cluster disks_old 1 (config.cluster.quorums.centres + 1)
        → IsErrAnd result (NeverServed disk may_leave tears config.checkpoint calls lost config.cluster 1 (config.cluster.quorums.centres + 1) disks_old disks_new link_old link_new out_old out_new)
    -- and whatever the logs are, disks of no centre of the configuration are as they were
    pub others : KeepsUnserved disk may_leave 1 (config.cluster.quorums.centres + 1) disks_old disks_new

  -- by what the input was read as
  abbrev pub ServesCluster : Result Config Failure → ℕ → Result Served Failure → Type 0
  ServesCluster (Ok config) turns served = ServesAll config turns served
  ServesCluster (Err failure) turns served = IsEarlyAt failure served

  -- `cluster TURNS`
  pub record RunsCluster (input : List ℕ) (turns : ℕ) (served : Result Served Failure) : Type 0 where
    pub read : Result Config Failure
    pub gives : GivesConfig input read
    pub serves : ServesCluster read turns served

  -- The command ended as its server did.
  pub record DoesCluster (left : Option (List ℕ)) (turns status : ℕ) (err_before err_after : Option (List ℕ)) (faults_before faults_after : ℕ) : Type 0 where
    pub served : Result Served Failure
    pub ends : EndsWithStatus served status err_before err_after faults_before faults_after
    pub runs : IfSome left (λ input. RunsCluster input turns served)
    pub failed_disk : OnDisk served
    -- the disks that no cluster has are as they were, whatever the input is
    pub others : KeepsUnserved disk may_leave 1 10 disks_old disks_new
