-- The disks of centres that are not served.
use Rattle.std.specs.List.{AllByRecursion}
use Rattle.std.specs.Prelude.{List, ℕ, ◌+◌, ◌<◌, ◌≢◌, ◌≡◌, ◌≤◌}
use Rattle.mdcc_disks.specs.Disks.{Disk, Within}
use Rattle.mdcc_def_server_runs.specs.Sites.{Site}

-- no disk of the centre of this number
abbrev pub IsNoDiskOf : ℕ → ℕ → Type 0
IsNoDiskOf p a = (p ≢ a) × (p ≢ a + 16)

-- no disk of one of these centres
abbrev pub IsNoDiskOfSites : List Site → ℕ → Type 0
IsNoDiskOfSites sites p = AllByRecursion (λ site. IsNoDiskOf p site.centre) sites

-- no disk of a centre with a number from the first to below the end
abbrev pub IsUnserved : ℕ → ℕ → ℕ → Type 0
IsUnserved first end p = (a : ℕ) → first ≤ a → a < end → IsNoDiskOf p a

module _ {D : Type 0} (disk : D → ℕ → Disk) (may_leave : D → ℕ → List ℕ → Type 0) where
  -- these disks are as they were, and a crash leaves no more of them
  pub record KeepsDisks (Which : ℕ → Type 0) (old new : D) : Type 0 where
    pub others : (p : ℕ) → Which p → disk new p ≡ disk old p
    pub crash : (p : ℕ) → Which p → Within (may_leave old p) (may_leave new p)

  abbrev pub KeepsElsewhere : List Site → D → D → Type 0
  KeepsElsewhere sites old new = KeepsDisks (IsNoDiskOfSites sites) old new

  abbrev pub KeepsUnserved : ℕ → ℕ → D → D → Type 0
  KeepsUnserved first end old new = KeepsDisks (IsUnserved first end) old new
