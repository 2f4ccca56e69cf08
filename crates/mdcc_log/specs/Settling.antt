-- What settling one of two areas does at its place.
use Rattle.std.specs.Prelude.{◌≡◌, ℕ, List, IsTrue, Result, OnOk}
use Rattle.mdcc_disks.specs.Disks.{Disk, DiskCall, Only, LeavesOnly}
use Rattle.mdcc_log_file.specs.Calls.{MadeSome, with_calls}

module _ {D : Type 0} (disk : D → ℕ → Disk) (may_leave : D → ℕ → List ℕ → Type 0) (moment : D → ℕ) (left_since : D → ℕ → ℕ → List ℕ → Type 0) where
  -- At Ok these bytes stand there, all of them durable, and all these calls were made; a crash meanwhile leaves what has P, and
  -- a front of the calls was made.
  pub record SettlesOne {T E : Type 0} (old new : D) (place : ℕ) (bytes : List ℕ) (P : List ℕ → Type 0) (calls : List DiskCall) (result : Result T E) : Type 0 where
    pub told : (disk new place).told ≡ (disk old place).told
    pub settled : IsTrue (disk old place).told → OnOk result ((disk new place).bytes ≡ bytes)
    pub durable : IsTrue (disk old place).told → OnOk result (Only (disk new place).bytes (may_leave new place))
    pub any_moment : IsTrue (disk old place).told → LeavesOnly moment left_since old new place P
    pub some_calls : MadeSome calls (disk old place).calls (disk new place).calls
    pub all_calls : OnOk result ((disk new place).calls ≡ with_calls calls (disk old place).calls)
