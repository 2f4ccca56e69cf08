-- What comes of a start over a log of facts.
use Rattle.std.specs.Prelude.{Err, IsTrue, List, Ok, Result, length, ℕ, ◌+◌, ◌-◌, ◌<◌, ◌^◌, ◌∷◌, ◌≡◌, ◌≤◌, ⊤}
use Rattle.mdcc_node_boot.specs.Loading.{boot_by}
use Rattle.mdcc_disks.specs.Disks.{Disk}
use Rattle.mdcc_log_file.specs.Area.{AreaLog, payloads, read_areas}
use Rattle.mdcc_log.specs.AtRest.{IsAtRest}
use Rattle.mdcc_log.specs.Frames.{OpenAreas}
use Rattle.mdcc_log.specs.Room.{IsRoomy, IsRoomyLog}
use Rattle.mdcc_log_file.specs.declared.fault.LogFault.{LogFault}
use Rattle.mdcc_log_file.specs.Log.{log_bytes, log_limit}
use Rattle.mdcc_node.specs.Represents.{RepresentsCentre}
use Rattle.mdcc_node.specs.declared.node.Node.{Node}
use Rattle.mdcc_option.specs.declared.cluster.Cluster.{Cluster}
use Rattle.mdcc_def_protocol.specs.Cells.{cells_held}
use Rattle.mdcc_def_protocol.specs.Facts.{epoch_of}
use Rattle.mdcc_def_protocol.specs.Volatile.{initial_volatile}
use Rattle.mdcc_def_messages.specs.declared.facts.Fact.{Fact}
use Rattle.mdcc_def_rules.specs.declared.node.BootFault.{BootFault}
use Rattle.mdcc_theorem_node_steps.specs.NodeInvariant.{fact_payloads}
use Rattle.mdcc_node_log.specs.declared.fault.StartFault.{StartFault}
use Rattle.mdcc_node_log.specs.declared.starting.Running.{Running}
use Rattle.mdcc_def_rules.specs.Boot.{next_boot}
use Rattle.mdcc_def_messages.specs.Lengths.{cells_needed}
use Rattle.mdcc_def_messages.specs.Spelling.{encodings_of}

-- ---- what stands before it

-- Of the two areas of a centre, whose disks tell their bytes, these facts are read.
pub record IsLogOnDisks (facts : List Fact) (first second : Disk) : Type 0 where
  pub told_first : IsTrue first.told
  pub told_second : IsTrue second.told
  pub read : payloads first.bytes second.bytes ≡ Ok (encodings_of facts)

-- The log in its two areas takes no more bytes than one of version 1 would, with generations left, and a checkpoint is due after 17
-- frames or more.
pub record HasLogRoom (every : ℕ) (first second : Disk) : Type 0 where
  pub log : AreaLog
  pub read : read_areas first.bytes second.bytes ≡ Ok log
  pub roomy : IsRoomyLog log
  pub often : 17 ≤ every

-- ---- what comes of it

-- how many bytes the log has with it
abbrev pub size_with_boot : List Fact → ℕ
size_with_boot facts = length (log_bytes (encodings_of (next_boot facts ∷ facts)))

-- what a boot makes of these facts over an empty store with so many cells: they and the new boot, or why there is no node
abbrev pub booted_over : ℕ → Cluster → List Fact → Result (List Fact) BootFault
booted_over total cluster facts = boot_by total cluster (fact_payloads facts)

-- A centre that runs: its node has these facts and the new boot, and its log, which lies within the limit, has them too, all of it
-- durable; no checkpoint is due. Its store has so many cells, in which these facts left room for the boot.
pub record Runs {S D : Type 0} (stands : S → List Fact → Type 0) (cells : S → ℕ) (total : ℕ) (centre : Running S) (cluster : Cluster) (me every : ℕ) (facts : List Fact) (disk : D → ℕ → Disk) (may_leave : D → ℕ → List ℕ → Type 0) (old new : D) : Type 0 where
  pub epoch : centre.epoch ≡ epoch_of facts + 1
  pub below : epoch_of facts < 2 ^ 32 - 1
  pub node : RepresentsCentre stands centre.node cluster me (next_boot facts ∷ facts) initial_volatile
  pub total_is : cells centre.node.store ≡ total
  pub fits : cells_held facts + cells_needed (next_boot facts) ≤ total
  pub place : centre.log.centre ≡ me
  pub every_is : centre.log.every ≡ every
  pub few : centre.log.tail < every
  pub at_rest : IsAtRest disk may_leave new centre.log (encodings_of (next_boot facts ∷ facts))
  pub within : size_with_boot facts ≤ log_limit
  pub roomy : HasLogRoom every (disk old me) (disk old (me + 16)) → IsRoomy centre.log.generation centre.log.tail centre.log.count

-- Why no centre runs. A fault of the disk and want of memory may come at any time.
abbrev pub IsRefused : ℕ → Cluster → List Fact → Type 0 → StartFault → Type 0
IsRefused total cluster facts roomy (StartFault.Boot BootFault.Epochs) = 2 ^ 32 - 1 ≤ epoch_of facts
IsRefused total cluster facts roomy (StartFault.Boot (BootFault.Room needed all)) = booted_over total cluster facts ≡ Err (BootFault.Room needed all)
IsRefused total cluster facts roomy (StartFault.Log LogFault.LogFull) = (booted_over total cluster facts ≡ Ok (next_boot facts ∷ facts)) × (roomy → log_limit < size_with_boot facts)
IsRefused total cluster facts roomy (StartFault.Log LogFault.DiskFault) = ⊤
IsRefused total cluster facts roomy StartFault.Memory = ⊤
IsRefused total cluster facts roomy _ = ⊥

abbrev pub StartGives : {S D : Type 0} → (S → List Fact → Type 0) → (S → ℕ) → ℕ → Result (Running S) StartFault → Cluster → ℕ → ℕ → List Fact → (D → ℕ → Disk) → (D → ℕ → List ℕ → Type 0) → D → D → Type 0
StartGives stands cells total (Ok centre) cluster me every facts disk may_leave old new = Runs stands cells total centre cluster me every facts disk may_leave old new
StartGives stands cells total (Err fault) cluster me every facts disk may_leave old new = IsRefused total cluster facts (HasLogRoom every (disk old me) (disk old (me + 16))) fault

-- ---- what stands on its disks

-- A log of these payloads is at rest, and has room where it had it: the same log is read, with as many frames behind its records.
pub record IsAsBefore {D : Type 0} (all : List (List ℕ)) (me every : ℕ) (disk : D → ℕ → Disk) (may_leave : D → ℕ → List ℕ → Type 0) (old new : D) : Type 0 where
  pub frames : OpenAreas
  pub place : frames.centre ≡ me
  pub at_rest : IsAtRest disk may_leave new frames all
  pub room : HasLogRoom every (disk old me) (disk old (me + 16)) → HasLogRoom every (disk new me) (disk new (me + 16))
  pub same : (log : AreaLog) → read_areas (disk old me).bytes (disk old (me + 16)).bytes ≡ Ok log → read_areas (disk new me).bytes (disk new (me + 16)).bytes ≡ Ok log

-- What stands after a refusal: the log of the same payloads, all of it durable where it was opened. After a fault of a disk
-- a part of what was being written may stand, as after a crash.
abbrev pub KeepsLog : {D : Type 0} → List (List ℕ) → StartFault → ℕ → ℕ → (D → ℕ → Disk) → (D → ℕ → List ℕ → Type 0) → D → D → Type 0
KeepsLog all (StartFault.Log LogFault.DiskFault) me every disk may_leave old new = ⊤
KeepsLog all StartFault.Memory me every disk may_leave old new = payloads (disk new me).bytes (disk new (me + 16)).bytes ≡ Ok all
KeepsLog all _ me every disk may_leave old new = IsAsBefore all me every disk may_leave old new

-- something is kept unless a call of a disk failed
abbrev pub KeepsUnlessDisk : StartFault → Type 0 → Type 0
KeepsUnlessDisk (StartFault.Log LogFault.DiskFault) kept = ⊤
KeepsUnlessDisk fault kept = kept

-- both areas have the bytes that they had
abbrev pub AreasStand : {D : Type 0} → ℕ → (D → ℕ → Disk) → D → D → Type 0
AreasStand me disk old new = ((disk new me).bytes ≡ (disk old me).bytes) × ((disk new (me + 16)).bytes ≡ (disk old (me + 16)).bytes)

-- Why no centre runs over areas that give no log, for what stands at this offset: nothing is written or cut off. A fault of a disk and
-- want of memory may come first.
abbrev pub IsUnread : {D : Type 0} → ℕ → StartFault → ℕ → (D → ℕ → Disk) → D → D → Type 0
IsUnread n (StartFault.Log LogFault.DiskFault) me disk old new = ⊤
IsUnread n (StartFault.Log (LogFault.NotALog m)) me disk old new = (m ≡ n) × AreasStand me disk old new
IsUnread n StartFault.Memory me disk old new = AreasStand me disk old new
IsUnread n _ me disk old new = ⊥

-- ---- its boot

-- a node of these facts and the new boot, with this boot, or the fault: the epochs are used up, cells lack, or there was no memory
abbrev pub BootsNode : {S : Type 0} → (S → List Fact → Type 0) → (S → ℕ) → ℕ → Result (Node S × Fact) StartFault → Cluster → ℕ → List Fact → Type 0
BootsNode stands cells total (Ok r) cluster me facts =
    (epoch_of facts < 2 ^ 32 - 1) × RepresentsCentre stands r.0 cluster me (next_boot facts ∷ facts) initial_volatile × (r.1 ≡ next_boot facts)
    × (booted_over total cluster facts ≡ Ok (next_boot facts ∷ facts)) × (cells r.0.store ≡ total)
BootsNode stands cells total (Err (StartFault.Boot BootFault.Epochs)) cluster me facts = 2 ^ 32 - 1 ≤ epoch_of facts
BootsNode stands cells total (Err (StartFault.Boot (BootFault.Room needed all))) cluster me facts = booted_over total cluster facts ≡ Err (BootFault.Room needed all)
BootsNode stands cells total (Err StartFault.Memory) cluster me facts = ⊤
BootsNode stands cells total (Err fault) cluster me facts = ⊥
