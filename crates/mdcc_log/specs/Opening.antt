-- What opening does to the two areas.
use Rattle.std.specs.Prelude.{◌≡◌, ◌≢◌, ◌⊎◌, ℕ, ◌+◌, ◌^◌, ◌<◌, ◌≤◌, ◌==◌, List, [], ◌∷◌, length, IsTrue, if◌then◌else◌, Result, Ok, Err, OnOk}
use Rattle.mdcc_disks.specs.Disks.{Disk, Only, LeavesOnly}
use Rattle.mdcc_disks.specs.Disks.DiskCall.{Length, Sync}
use Rattle.mdcc_log_file.specs.Calls.{ReadsAll, ReadsSome, read_calls}
use Rattle.mdcc_log_file.specs.declared.area.Spare.{Spare}
use Rattle.mdcc_log_file.specs.Area.{AreaLog, generation_of, payloads_of, head_bytes, front_of, area_bytes, read_area, read_areas, taken, spare_of}
use Rattle.mdcc_log.specs.Crash.{IsLog, IsDead, IsOlder}
use Rattle.mdcc_log.specs.Frames.{OpenAreas, IsInUse, IsSpare, open_calls, other_of, place_of}
use Rattle.mdcc_log.specs.Reading.{IsReadAs}
use Rattle.mdcc_log.specs.Repair.{MaySettle, MayClose, with_closed_gate}

-- what a crash may leave of an area that is taken, while it is settled
abbrev pub MayTake : (ℕ → Type 0) → List ℕ → List ℕ → Type 0
MayTake tears bytes c = (c ≡ bytes) ⊎ ((log : AreaLog) × ((read_area bytes ≡ Ok log) × MaySettle tears (length (front_of log)) bytes c))

-- and where a log was read there
abbrev pub MaySettleAs : (ℕ → Type 0) → List ℕ → List ℕ → Type 0
MaySettleAs tears bytes c = (c ≡ bytes) ⊎ ((log : AreaLog) × (IsReadAs log bytes × MaySettle tears (length (front_of log)) bytes c))

-- its bytes then
abbrev pub taken_bytes : Result AreaLog ℕ → List ℕ
taken_bytes (Ok log) = area_bytes log
taken_bytes (Err offset) = []

-- what a crash may leave of the area of this number, by which one is taken
abbrev pub MayOpenAs : (ℕ → Type 0) → ℕ → Result ℕ ℕ → List ℕ → List ℕ → Type 0
MayOpenAs tears which choice bytes c =
    (c ≡ bytes) ⊎ (((choice ≡ Ok which) × MaySettleAs tears bytes c) ⊎ ((area : ℕ) × ((choice ≡ Ok area) × ((area ≢ which) × MayClose tears bytes c))))

-- the bytes of the area of this number after it, by which one is taken and what is read in it
abbrev pub opened_bytes : ℕ → Result ℕ ℕ → Result AreaLog ℕ → List ℕ → List ℕ
opened_bytes which (Ok area) read bytes = if which == area then taken_bytes read else with_closed_gate bytes
opened_bytes which (Err offset) read bytes = bytes

-- of two, that of this area
abbrev pub pick : {A : Type 0} → ℕ → A → A → A
pick area first second = if area == 0 then first else second

-- Of two areas this one is taken, in which this log stands, and the other is taken for none next to it.
pub record IsTaken (first second : List ℕ) (area generation : ℕ) (all : List (List ℕ)) (start tail gate : ℕ) (spare : Spare) : Type 0 where
  pub log : AreaLog
  pub choice : taken first second ≡ Ok area
  pub range : area ≤ 1
  pub valid : IsLog area log
  pub read : read_area (pick area first second) ≡ Ok log
  pub generation_is : generation ≡ generation_of log.head
  pub payloads_are : all ≡ payloads_of log
  pub starts : start ≡ length (head_bytes log.head)
  pub counted : tail ≡ length log.tail
  pub gate_is : gate ≡ length (front_of log)
  pub fits : gate + 1 < 2 ^ 63
  pub idle : IsDead (with_closed_gate (pick area second first)) ⊎ IsOlder generation (with_closed_gate (pick area second first))
  pub spare_is : spare ≡ spare_of (with_closed_gate (pick area second first))

module _ {D : Type 0} (disk : D → ℕ → Disk) (may_leave : D → ℕ → List ℕ → Type 0) (moment : D → ℕ) (left_since : D → ℕ → ℕ → List ℕ → Type 0) where
  -- What is opened stands at both places, all of it durable.
  pub record IsFound (old new : D) (one two area generation : ℕ) (all : List (List ℕ)) (start tail gate : ℕ) (spare : Spare) : Type 0 where
    pub first : List ℕ
    pub second : List ℕ
    pub is : IsTaken first second area generation all start tail gate spare
    pub first_is : IsTrue (disk old one).told → first ≡ (disk old one).bytes
    pub second_is : IsTrue (disk old two).told → second ≡ (disk old two).bytes
    pub first_bytes : IsTrue (disk old one).told → (disk new one).bytes ≡ opened_bytes 0 (taken first second) (read_areas first second) first
    pub second_bytes : IsTrue (disk old two).told → (disk new two).bytes ≡ opened_bytes 1 (taken first second) (read_areas first second) second
    pub first_durable : IsTrue (disk old one).told → Only (disk new one).bytes (may_leave new one)
    pub second_durable : IsTrue (disk old two).told → Only (disk new two).bytes (may_leave new two)

  -- What opening does at the place of the area of this number, over two areas of these bytes: what a crash meanwhile leaves, and
  -- the calls, of which a front is made, and all of them at Ok.
  pub record OpensOne {T E : Type 0} (tears : ℕ → Type 0) (old new : D) (place which : ℕ) (first second : List ℕ) (result : Result T E) : Type 0 where
    pub any_moment : LeavesOnly moment left_since old new place (λ c. may_leave old place c ⊎ MayOpenAs tears which (taken first second) (disk old place).bytes c)
    pub some_calls : ReadsSome (length (disk old place).bytes) (λ counts. open_calls which first second (disk old place).bytes counts) (disk old place).calls (disk new place).calls
    pub all_calls : OnOk result (ReadsAll (length (disk old place).bytes) (λ counts. open_calls which first second (disk old place).bytes counts) (disk old place).calls (disk new place).calls)

  -- A log is open: the one that stood in two areas of these bytes. The area that was taken is in use, and the other is taken for
  -- no log.
  pub record IsOpened (new : D) (frames : OpenAreas) (all : List (List ℕ)) (first second : List ℕ) : Type 0 where
    pub log : AreaLog
    pub read : read_areas first second ≡ Ok log
    pub payloads_are : all ≡ payloads_of log
    pub choice : taken first second ≡ Ok frames.area
    pub in_use : IsInUse frames log (disk new (place_of frames.centre frames.area)).bytes (may_leave new (place_of frames.centre frames.area))
    pub spare : IsSpare frames (disk new (place_of frames.centre (other_of frames.area))).bytes (may_leave new (place_of frames.centre (other_of frames.area)))

  -- A place is made durable and read.
  pub record LoadsOne {T E : Type 0} (old new : D) (place : ℕ) (result : Result T E) : Type 0 where
    pub told : (disk new place).told ≡ (disk old place).told
    pub bytes : (disk new place).bytes ≡ (disk old place).bytes
    pub durable : IsTrue (disk old place).told → OnOk result (Only (disk new place).bytes (may_leave new place))
    pub any_moment : LeavesOnly moment left_since old new place (may_leave old place)
    pub some_calls : IsTrue (disk old place).told → ReadsSome (length (disk old place).bytes)
        (λ counts. Sync ∷ Length ∷ read_calls (length (disk old place).bytes) 0 counts) (disk old place).calls (disk new place).calls
    pub all_calls : IsTrue (disk old place).told → OnOk result (ReadsAll (length (disk old place).bytes)
        (λ counts. Sync ∷ Length ∷ read_calls (length (disk old place).bytes) 0 counts) (disk old place).calls (disk new place).calls)
