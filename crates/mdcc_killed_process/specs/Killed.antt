-- What is seen of the disks, the link and the output of a process that is killed.
use Rattle.std.specs.Prelude.{IsErr, List, None, Option, Result, get_or, suc, zero, ℕ, ◌+◌, ◌≡◌, ◌≢◌, ◌≤◌}
use Rattle.mdcc_base.specs.Scripts.{one_more}
use Rattle.mdcc_base.specs.declared.faults.Failed.{Failed}
use Rattle.mdcc_disks.specs.Disks.{Disk}
use Rattle.mdcc_killed_process.specs.declared.disks.KilledDisks.{KilledDisks}
use Rattle.mdcc_killed_process.specs.declared.link.KilledLink.{KilledLink}
use Rattle.mdcc_killed_process.specs.declared.output.KilledOutput.{KilledOutput}
use Rattle.mdcc_link.specs.Link.{LinkCall}

-- ---- calls that were not made

-- one call more was not made at a place
pub record IsMissedAt (place : ℕ) (old new : List ℕ) : Type 0 where
  pub here : get_or new place 0 ≡ one_more (get_or old place 0)
  pub later : get_or old place 0 ≤ get_or new place 0
  pub elsewhere : (p : ℕ) → p ≢ place → get_or new p 0 ≡ get_or old p 0

-- the calls that are recorded, where so many were not made: from the first of them on none are
abbrev pub calls_told : {C : Type 0} → ℕ → Option C → Option C
calls_told zero calls = calls
calls_told (suc missed) calls = None

-- ---- as the process sees them

-- Each call that was not made failed. A disk has the bytes that it has, and a crash leaves of it what it may.
abbrev pub disk_of_killed : {D : Type 0} → (D → ℕ → Disk) → KilledDisks D → ℕ → Disk
disk_of_killed disk killed p =
    let missed = get_or killed.missed p 0 in
    record {
      told = (disk killed.disks p).told;
      bytes = (disk killed.disks p).bytes;
      calls = calls_told missed (disk killed.disks p).calls;
      faults = (disk killed.disks p).faults + missed;
    }

abbrev pub may_leave_of_killed : {D : Type 0} → (D → ℕ → List ℕ → Type 0) → KilledDisks D → ℕ → List ℕ → Type 0
may_leave_of_killed may_leave killed = may_leave killed.disks

abbrev pub moment_of_killed : {D : Type 0} → (D → ℕ) → KilledDisks D → ℕ
moment_of_killed moment killed = moment killed.disks

abbrev pub left_since_of_killed : {D : Type 0} → (D → ℕ → ℕ → List ℕ → Type 0) → KilledDisks D → ℕ → ℕ → List ℕ → Type 0
left_since_of_killed left_since killed = left_since killed.disks

abbrev pub calls_of_killed : {L : Type 0} → (L → Option (List LinkCall)) → KilledLink L → Option (List LinkCall)
calls_of_killed calls killed = calls_told (killed.unsent + killed.missed) (calls killed.link)

abbrev pub lost_of_killed : {L : Type 0} → (L → ℕ) → KilledLink L → ℕ
lost_of_killed lost killed = lost killed.link + killed.unsent

abbrev pub faults_of_killed : {L : Type 0} → (L → ℕ) → KilledLink L → ℕ
faults_of_killed faults killed = faults killed.link + killed.missed

abbrev pub held_of_killed : {O : Type 0} → (O → Option (List ℕ)) → KilledOutput O → Option (List ℕ)
held_of_killed held killed = held killed.output

-- ---- after the kill

-- A call is not made: it fails, and the disks are as they were.
pub record ReachesNoDisk {D T : Type 0} (old new : KilledDisks D) (result : Result T Failed) : Type 0 where
  pub fails : IsErr result
  pub disks : new.disks ≡ old.disks

pub record ReachesNoLink {L T : Type 0} (old new : KilledLink L) (result : Result T Failed) : Type 0 where
  pub fails : IsErr result
  pub link : new.link ≡ old.link

pub record ReachesNoOutput {O T : Type 0} (old new : KilledOutput O) (result : Result T Failed) : Type 0 where
  pub fails : IsErr result
  pub output : new.output ≡ old.output
