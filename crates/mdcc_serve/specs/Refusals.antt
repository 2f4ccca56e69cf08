-- What a server says of the logs that it opens.
use Rattle.std.specs.Prelude.{Err, IsTrue, Ok, Result, is_ok, ⊤, ℕ, ◌<◌, ◌≡◌, ◌≤◌, ◌⊎◌}
use Rattle.mdcc_log_file.specs.declared.fault.LogFault.{LogFault}
use Rattle.mdcc_disks.specs.Disks.{Disk}
use Rattle.mdcc_command_endings.specs.Logs.{AreAreasTold, LogRefusal, node_booted_at}
use Rattle.mdcc_option.specs.declared.cluster.Cluster.{Cluster}
use Rattle.mdcc_def_rules.specs.declared.node.BootFault.{BootFault}
use Rattle.mdcc_serve_site.specs.declared.fault.ServeFault.{ServeFault}

-- the faults of a server: want of memory and a failed disk are faults of their own, and no faults of a log
abbrev pub MayServe : ServeFault → Type 0
MayServe (ServeFault.Log a LogFault.DiskFault) = ⊥
MayServe (ServeFault.Log a LogFault.Memory) = ⊥
MayServe (ServeFault.Boot a BootFault.Memory) = ⊥
MayServe fault = ⊤

module _ {D : Type 0} (disk : D → ℕ → Disk) (cluster : Cluster) (disks : D) where
  -- ---- one log

  -- where it is known what stands there, a node boots from the log of this centre
  abbrev pub BootsAt : ℕ → Type 0
  BootsAt a = AreAreasTold disk disks a → IsTrue (is_ok (node_booted_at disk cluster disks a))

  -- what a fault at the start of this centre says of its log, where it is known
  abbrev pub SaysAt : ℕ → ServeFault → Type 0
  SaysAt a (ServeFault.Disk b) = b ≡ a
  SaysAt a (ServeFault.Log b (LogFault.NotALog offset)) = AreAreasTold disk disks a → (b ≡ a) × (node_booted_at disk cluster disks a ≡ Err (LogRefusal.NotALog offset))
  SaysAt a (ServeFault.Log b LogFault.LogFull) = (b ≡ a) × BootsAt a
  SaysAt a (ServeFault.Log b LogFault.DiskFault) = ⊥
  SaysAt a (ServeFault.Log b LogFault.Memory) = ⊥
  SaysAt a (ServeFault.Boot b BootFault.Memory) = ⊥
  SaysAt a (ServeFault.Boot b why) = (b ≡ a) × (AreAreasTold disk disks a → node_booted_at disk cluster disks a ≡ Err (LogRefusal.NoNode why))
  SaysAt a ServeFault.Memory = ⊤
  SaysAt a fault = ⊥

  -- ---- those of several centres, up to this number

  abbrev pub AllBoot : ℕ → ℕ → Type 0
  AllBoot first end = (a : ℕ) → first ≤ a → a < end → BootsAt a

  abbrev pub AreTold : ℕ → ℕ → Type 0
  AreTold first end = (a : ℕ) → first ≤ a → a < end → AreAreasTold disk disks a

  -- From the log of one of them no node boots, and it is known what stands there.
  pub record LacksNode (first end : ℕ) : Type 0 where
    pub at : ℕ
    pub from : first ≤ at
    pub to : at < end
    pub told : AreAreasTold disk disks at
    pub why : LogRefusal
    pub is : node_booted_at disk cluster disks at ≡ Err why

  -- The start of one of them ended with this fault; the ones before were started.
  pub record StartEnds (first end : ℕ) (fault : ServeFault) : Type 0 where
    pub at : ℕ
    pub from : first ≤ at
    pub to : at < end
    pub before : AllBoot first at
    pub says : SaysAt at fault

  -- the faults that come once all are started: where it is known what stands there, a log is one
  abbrev pub MayFollow : ℕ → ℕ → ServeFault → Type 0
  MayFollow first end (ServeFault.Log a (LogFault.NotALog offset)) = AreTold first end → ⊥
  MayFollow first end (ServeFault.Log a LogFault.DiskFault) = ⊥
  MayFollow first end (ServeFault.Log a LogFault.Memory) = ⊥
  MayFollow first end (ServeFault.Boot a why) = ⊥
  MayFollow first end fault = ⊤

  -- All of them were started, and the fault came then.
  pub record EndsStarted (first end : ℕ) (fault : ServeFault) : Type 0 where
    pub boots : AllBoot first end
    pub may : MayFollow first end fault

  -- From all logs nodes boot, or a start ended at the first one from which none does, or else something came before it.
  abbrev pub SaysOfLogs : {T : Type 0} → ℕ → ℕ → Result T ServeFault → Type 0
  SaysOfLogs first end (Ok done) = AllBoot first end
  SaysOfLogs first end (Err fault) = StartEnds first end fault ⊎ EndsStarted first end fault
