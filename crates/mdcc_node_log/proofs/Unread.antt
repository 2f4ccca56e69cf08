-- What a start does where its areas give no log.
use Rattle.std.proofs.Common.{◌≡◌, ℕ, ◌+◌, List, IsErrOf, Err, Ok, refl}
use Rattle.mdcc_disks.specs.Disks.{Disk}
use Rattle.mdcc_log_file.specs.Area.{payloads}
use Rattle.mdcc_log_file.specs.declared.fault.LogFault.{LogFault}
use Rattle.mdcc_node_log.specs.Faults.{of_log}
use Rattle.mdcc_node_log.specs.Starting.{AreasStand, IsUnread}
use Rattle.mdcc_node_log.specs.declared.fault.StartFault.{StartFault}

-- what gives a log gives one
pub no-log : (first second : List ℕ) (all : List (List ℕ)) (n : ℕ) → payloads first second ≡ Ok all → payloads first second ≡ Err n → ⊥
no-log first second all n e none = cc

-- the log was not opened
pub open-unread : {D T : Type 0} (n me : ℕ) (disk : D → ℕ → Disk) (old new : D) (fault : LogFault) → payloads (disk old me).bytes (disk old (me + 16)).bytes ≡ Err n
    → ((m : ℕ) → IsErrOf {T = T} (Err fault) (LogFault.NotALog m) → payloads (disk old me).bytes (disk old (me + 16)).bytes ≡ Err m)
    → ((m : ℕ) → IsErrOf {T = T} (Err fault) (LogFault.NotALog m) → AreasStand me disk old new)
    → (IsErrOf {T = T} (Err fault) LogFault.Memory → AreasStand me disk old new)
    → (IsErrOf {T = T} (Err fault) LogFault.LogFull → ⊥)
    → IsUnread n (of_log fault) me disk old new
open-unread n me disk old new LogFault.DiskFault read not_a_log keeps memory not_full = tt
open-unread n me disk old new (LogFault.NotALog m) read not_a_log keeps memory not_full = let found = not_a_log m refl in (cc, keeps m refl)
open-unread n me disk old new LogFault.LogFull read not_a_log keeps memory not_full = absurd (not_full refl)
open-unread n me disk old new LogFault.Memory read not_a_log keeps memory not_full = memory refl

-- that areas are no log is said by the log
pub of-no-log : (n : ℕ) (fault : LogFault) → of_log fault ≡ StartFault.Log (LogFault.NotALog n) → fault ≡ LogFault.NotALog n
of-no-log n LogFault.DiskFault e = absurd (cc)
of-no-log n (LogFault.NotALog m) e = cc
of-no-log n LogFault.LogFull e = absurd (cc)
of-no-log n LogFault.Memory e = absurd (cc)
