-- How a start over any payloads ends.
use Rattle.std.proofs.Common.{◌≡◌, ℕ, List, IsErrOf, Err, Result, map, refl, subst}
use Rattle.mdcc_node_boot.specs.Loading.{boot_by, fact_read}
use Rattle.mdcc_node_log.specs.Faults.{of_boot, of_log}
use Rattle.mdcc_node_log.specs.Payloads.{BootsFrom, HasNoRoomForBoot, HasOpened, StartEnds}
use Rattle.mdcc_node_log.specs.Starting.{KeepsUnlessDisk}
use Rattle.mdcc_node_log.specs.declared.fault.StartFault.{StartFault}
use Rattle.mdcc_disks.specs.Disks.{Disk}
use Rattle.mdcc_log_file.specs.declared.fault.LogFault.{LogFault}
use Rattle.mdcc_def_messages.specs.declared.facts.Fact.{Fact}
use Rattle.mdcc_node.specs.BootEffects.{Boots}
use Rattle.mdcc_node.specs.declared.node.Node.{Node}
use Rattle.mdcc_option.specs.declared.cluster.Cluster.{Cluster}
use Rattle.mdcc_def_rules.specs.declared.node.BootFault.{BootFault}

module _ {D S : Type 0} (disk : D → ℕ → Disk) (may_leave : D → ℕ → List ℕ → Type 0) (me every : ℕ) (old new : D)
    (stands : S → List Fact → Type 0) (cells : S → ℕ) (total : ℕ) (cluster : Cluster)
  where
    -- the log was not opened
    pub open_ends : {T : Type 0} (fault : LogFault) → (IsErrOf {T = T} (Err fault) LogFault.LogFull → ⊥)
        → StartEnds disk may_leave me every old new stands cells total cluster (of_log fault)
    open_ends LogFault.DiskFault not_full = tt
    open_ends (LogFault.NotALog n) not_full = tt
    open_ends LogFault.LogFull not_full = absurd (not_full refl)
    open_ends LogFault.Memory not_full = tt

    -- its payloads gave no node
    pub boot_ends : (all : List (List ℕ)) (fault : StartFault) → HasOpened disk may_leave me every old new all → BootsFrom {S = S} stands cells total cluster me all (Err fault)
        → ((log : LogFault) → IsErrOf {T = Node S × Fact} (Err fault) (StartFault.Log log) → ⊥)
        → StartEnds disk may_leave me every old new stands cells total cluster fault
    boot_ends all (StartFault.Boot fault) opened boots no_log = record { all = all; opened = opened; boots = boots }
    boot_ends all (StartFault.Log fault) opened boots no_log = absurd (no_log fault refl)
    boot_ends all StartFault.Memory opened boots no_log = tt

    -- the boot was not appended
    pub append_ends : (fault : LogFault) → (fault ≡ LogFault.LogFull → HasNoRoomForBoot disk may_leave me every old new stands cells total cluster)
        → StartEnds disk may_leave me every old new stands cells total cluster (of_log fault)
    append_ends LogFault.DiskFault full = tt
    append_ends (LogFault.NotALog n) full = tt
    append_ends LogFault.LogFull full = full refl
    append_ends LogFault.Memory full = tt

-- ---- what is kept

pub kept_unless : (fault : StartFault) (P : Type 0) → P → KeepsUnlessDisk fault P
kept_unless (StartFault.Log LogFault.DiskFault) P p = tt
kept_unless (StartFault.Log (LogFault.NotALog n)) P p = p
kept_unless (StartFault.Log LogFault.LogFull) P p = p
kept_unless (StartFault.Log LogFault.Memory) P p = p
kept_unless (StartFault.Boot fault) P p = p
kept_unless StartFault.Memory P p = p

-- where the boot was not appended, and no disk failed, nothing was done since the log was opened
pub append_kept : {D : Type 0} (mid new : D) (fault : LogFault) (P : D → Type 0)
    → (IsErrOf {T = Unit {0}} (Err fault) LogFault.LogFull → new ≡ mid)
    → (IsErrOf {T = Unit {0}} (Err fault) LogFault.Memory → new ≡ mid)
    → ((n : ℕ) → IsErrOf {T = Unit {0}} (Err fault) (LogFault.NotALog n) → ⊥)
    → ((new ≡ mid) → P new) → KeepsUnlessDisk (of_log fault) (P new)
append_kept mid new LogFault.DiskFault P full memory a_log same = tt
append_kept mid new (LogFault.NotALog n) P full memory a_log same = absurd (a_log n refl)
append_kept mid new LogFault.LogFull P full memory a_log same = same (full refl)
append_kept mid new LogFault.Memory P full memory a_log same = same (memory refl)

-- ---- its boot

pub boots-from : {S : Type 0} (stands : S → List Fact → Type 0) (cells : S → ℕ) (total : ℕ) (cluster : Cluster) (me : ℕ) (all : List (List ℕ)) (fault : BootFault)
    → Boots {S = S} stands cells total (Err fault) cluster me (boot_by total cluster (map fact_read all))
    → BootsFrom {S = S} stands cells total cluster me all (Err (of_boot fault))
boots-from stands cells total cluster me all BootFault.Memory h = tt
boots-from stands cells total cluster me all BootFault.Epochs h = h
boots-from stands cells total cluster me all (BootFault.NotARun n) h = h
boots-from stands cells total cluster me all (BootFault.Room needed cells_all) h = h

pub boots-over : {S : Type 0} (stands : S → List Fact → Type 0) (cells : S → ℕ) (total : ℕ) (cluster : Cluster) (me : ℕ) (one two : List (List ℕ)) (result : Result (Node S × Fact) StartFault)
    → one ≡ two → BootsFrom stands cells total cluster me one result → BootsFrom stands cells total cluster me two result
boots-over {S} stands cells total cluster me one two result same h = subst (λ (all : List (List ℕ)). BootsFrom {S = S} stands cells total cluster me all result) same h
