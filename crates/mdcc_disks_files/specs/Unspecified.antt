-- Disks of whose contents nothing is promised, but how often a call failed.
use Rattle.std.specs.Prelude.{◌≡◌, ◌≢◌, ℕ, ◌-◌, ◌^◌, List, [], get_or, false, None}
use Rattle.mdcc_disks.specs.Disks.{Disk}

-- the count of a disk; one that has no count of its own stands at the end
abbrev pub fault_at : List ℕ → ℕ → ℕ
fault_at counts place = get_or counts place (2 ^ 64 - 1)

-- the disk of this number: its bytes and its calls are not specified
abbrev pub unspecified_disk : List ℕ → ℕ → Disk
unspecified_disk counts place = record { told = false; bytes = []; calls = None; faults = fault_at counts place }

-- a crash may leave any bytes
abbrev pub Any : {D : Type 0} → D → ℕ → List ℕ → Type 0
Any disks place bytes = Unit {0}

-- and so at each moment, of which no two are distinguished
abbrev pub AnySince : {D : Type 0} → D → ℕ → ℕ → List ℕ → Type 0
AnySince disks place moment bytes = Unit {0}

abbrev pub one_moment : {D : Type 0} → D → ℕ
one_moment disks = 0

-- a written byte may be torn to any
abbrev pub AnyByte : ℕ → Type 0
AnyByte byte = Unit {0}

-- the counts of all other disks are as before
abbrev pub KeepsFaults : ℕ → List ℕ → List ℕ → Type 0
KeepsFaults place old new = (p : ℕ) → p ≢ place → fault_at new p ≡ fault_at old p
