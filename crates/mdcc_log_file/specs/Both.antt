-- What calls at two places leave, of which one is only read.
use Rattle.std.specs.Prelude.{◌≡◌, ◌≢◌, ◌⊎◌, ℕ, ◌≤◌, List}
use Rattle.mdcc_base.specs.Causes.{Rose}
use Rattle.mdcc_disks.specs.Disks.{Disk, Within, LeavesOnly}
use Rattle.mdcc_log_file.specs.Calls.{OnlyReads}
use Rattle.mdcc_log_file.specs.Copying.{IsShut}

module _ {D : Type 0} (disk : D → ℕ → Disk) (may_leave : D → ℕ → List ℕ → Type 0) (moment : D → ℕ) (left_since : D → ℕ → ℕ → List ℕ → Type 0) where
  -- All places but these two are as they were, and these tell their bytes if they did before.
  pub record KeepsBut (old new : D) (one two : ℕ) : Type 0 where
    pub told_one : (disk new one).told ≡ (disk old one).told
    pub told_two : (disk new two).told ≡ (disk old two).told
    pub others : (p : ℕ) → p ≢ one → p ≢ two → disk new p ≡ disk old p
    pub crash : (p : ℕ) → p ≢ one → p ≢ two → Within (may_leave old p) (may_leave new p)
    pub crash_back : (p : ℕ) → p ≢ one → p ≢ two → Within (may_leave new p) (may_leave old p)
    pub later : moment old ≤ moment new
    pub time : (p t : ℕ) (c : List ℕ) → p ≢ one → p ≢ two → t ≤ moment old → left_since new p t c → left_since old p t c ⊎ may_leave old p c
    -- the faults that were counted there
    pub faults_one : (disk old one).faults ≤ (disk new one).faults
    pub faults_two : (disk old two).faults ≤ (disk new two).faults

  -- Nothing was changed at the place.
  pub record IsOnlyRead (old new : D) (place : ℕ) : Type 0 where
    pub bytes : (disk new place).bytes ≡ (disk old place).bytes
    pub crash : Within (may_leave old place) (may_leave new place)
    pub any_moment : LeavesOnly moment left_since old new place (may_leave old place)
    pub calls : OnlyReads (disk old place).calls (disk new place).calls

  -- Where a closed area gate stood whatever a crash left, it stands so at each moment.
  pub record StaysShut (old new : D) (place : ℕ) : Type 0 where
    pub shut : Within IsShut (may_leave old place) → Within IsShut (may_leave new place)
    pub any_moment : Within IsShut (may_leave old place) → LeavesOnly moment left_since old new place IsShut

-- one of two counts rose
abbrev pub RoseAtOne : Disk → Disk → Disk → Disk → Type 0
RoseAtOne old_one new_one old_two new_two = Rose old_one.faults new_one.faults ⊎ Rose old_two.faults new_two.faults
