-- The open log of a centre at rest.
use Rattle.std.specs.Prelude.{◌≡◌, ◌⊎◌, ℕ, ◌≤◌, List}
use Rattle.mdcc_disks.specs.Disks.{Disk}
use Rattle.mdcc_log_file.specs.Area.{AreaLog, payloads_of}
use Rattle.mdcc_log.specs.Crash.{IsBetween, IsCurrent}
use Rattle.mdcc_log.specs.Frames.{OpenAreas, IsInUse, IsSpare, appended, other_of, place_of}

-- what a crash may leave of the area in use while one more payload is appended and then all are copied
abbrev pub MayBeDue : ℕ → AreaLog → List ℕ → List ℕ → Type 0
MayBeDue area log payload c = IsBetween area log payload c ⊎ IsCurrent area (appended log payload) c

-- The open log has these payloads, all of them durable: they stand in the area in use, and the other area is taken for no log.
pub record IsAtRest {D : Type 0} (disk : D → ℕ → Disk) (may_leave : D → ℕ → List ℕ → Type 0) (disks : D) (frames : OpenAreas) (payloads : List (List ℕ)) : Type 0 where
  pub log : AreaLog
  pub range : frames.area ≤ 1
  pub payloads_are : payloads ≡ payloads_of log
  pub in_use : IsInUse frames log (disk disks (place_of frames.centre frames.area)).bytes (may_leave disks (place_of frames.centre frames.area))
  pub spare : IsSpare frames (disk disks (place_of frames.centre (other_of frames.area))).bytes (may_leave disks (place_of frames.centre (other_of frames.area)))
