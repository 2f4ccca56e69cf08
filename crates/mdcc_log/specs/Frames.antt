-- An open log in two areas.
use Rattle.std.specs.Prelude.{◌≡◌, ◌⊎◌, ℕ, ◌+◌, ◌*◌, ◌==◌, nat_le, List, [], ◌∷◌, ◌++◌, length, if◌then◌else◌, Result, Ok, Err}
use Rattle.mdcc_disks.specs.Disks.{DiskCall, Only}
use Rattle.mdcc_disks.specs.Disks.DiskCall.{Length, Write, Cut, Sync}
use Rattle.mdcc_log_file.specs.Calls.{begin_calls, close_calls, cut_calls, read_calls}
use Rattle.mdcc_log_file.specs.declared.area.Spare.{Spare}
use Rattle.mdcc_log_file.specs.Area.{AreaLog, generation_of, payloads_of, counts_bytes, records_bytes, head_bytes, front_of, area_bytes, is_torn, spare_of, taken, read_area, read_areas}
use Rattle.mdcc_log_file.specs.Area.Head.{Version2}
use Rattle.mdcc_log_file.specs.Copying.{mark_calls, record_calls, shut_calls}
use Rattle.mdcc_log.specs.Crash.{IsLog, IsDead, IsOlder}

-- area 0 of a centre stands at its own number, area 1 sixteen further on
abbrev pub place_of : ℕ → ℕ → ℕ
place_of centre area = centre + 16 * area

abbrev pub other_of : ℕ → ℕ
other_of area = if area == 0 then 1 else 0

-- The open log of a centre: which area is in use, after how many frames a checkpoint is due, the generation of the area, how
-- many payloads there are, where the frames begin and how many they are, how many bytes all payloads take as records, how many
-- bytes the area has, and what is known of the other area.
pub record OpenAreas : Type 0 where
  pub centre : ℕ
  pub area : ℕ
  pub every : ℕ
  pub generation : ℕ
  pub count : ℕ
  pub start : ℕ
  pub tail : ℕ
  pub body : ℕ
  pub size : ℕ
  pub spare : Spare

-- The bytes are those of this log, all of them durable.
pub record IsInUse (frames : OpenAreas) (log : AreaLog) (bytes : List ℕ) (may_leave : List ℕ → Type 0) : Type 0 where
  pub valid : IsLog frames.area log
  pub file : bytes ≡ area_bytes log
  pub generation : frames.generation ≡ generation_of log.head
  pub count : frames.count ≡ length (payloads_of log)
  pub start : frames.start ≡ length (head_bytes log.head)
  pub tail : frames.tail ≡ length log.tail
  pub body : frames.body ≡ length (records_bytes (payloads_of log))
  pub size : frames.size ≡ length bytes
  pub durable : Only bytes may_leave

-- The bytes of the other area, all of them durable, are taken for no log.
pub record IsSpare (frames : OpenAreas) (bytes : List ℕ) (may_leave : List ℕ → Type 0) : Type 0 where
  pub idle : IsDead bytes ⊎ IsOlder frames.generation bytes
  pub spare : frames.spare ≡ spare_of bytes
  pub durable : Only bytes may_leave

abbrev pub IsSettled : OpenAreas → List ℕ → (List ℕ → Type 0) → Type 0
IsSettled frames bytes may_leave = (log : AreaLog) × IsInUse frames log bytes may_leave

-- with one more payload
abbrev pub appended : AreaLog → List ℕ → AreaLog
appended log payload = record { head = log.head; tail = log.tail ++ payload ∷ [] }

-- with all payloads packed, of the next generation
abbrev pub packed : AreaLog → AreaLog
packed log = record { head = Version2 (generation_of log.head + 1) (payloads_of log); tail = [] }

-- ---- the calls of an opening

-- an area that is not taken has its area gate closed, where that is neither closed nor open
abbrev pub spare_calls : List ℕ → List DiskCall
spare_calls bytes = if is_torn bytes then Write 8 (0 ∷ []) ∷ Sync ∷ [] else []

-- the last gate of the area that is taken is closed, and what stands behind it cut off
abbrev pub repair_calls : List ℕ → Result AreaLog ℕ → List DiskCall
repair_calls bytes (Ok log) = close_calls (length (front_of log)) bytes ++ cut_calls (length (front_of log)) bytes
repair_calls bytes (Err offset) = []

abbrev pub settle_calls : List ℕ → List DiskCall
settle_calls bytes = if nat_le (length bytes) 9 then begin_calls else repair_calls bytes (read_area bytes)

-- and of what is no log nothing is changed
abbrev pub other_calls : Result AreaLog ℕ → List ℕ → List DiskCall
other_calls (Ok log) bytes = spare_calls bytes
other_calls (Err offset) bytes = []

-- what is changed of an area, by which one is taken and what is read in it
abbrev pub change_calls : ℕ → Result ℕ ℕ → Result AreaLog ℕ → List ℕ → List DiskCall
change_calls area (Ok which) read bytes = if area == which then settle_calls bytes else other_calls read bytes
change_calls area (Err offset) read bytes = []

-- both areas are made durable and read, and then what a crash left of them is settled
abbrev pub open_calls : ℕ → List ℕ → List ℕ → List ℕ → List ℕ → List DiskCall
open_calls area first second bytes counts =
    Sync ∷ Length ∷ (read_calls (length bytes) 0 counts ++ change_calls area (taken first second) (read_areas first second) bytes)

-- ---- the calls of a checkpoint

-- all behind the area gate
abbrev pub body_calls : ℕ → List (List ℕ) → List DiskCall
body_calls generation records =
    Write 9 (counts_bytes generation (length records)) ∷ (record_calls 25 records ++ Write (25 + length (records_bytes records)) (0 ∷ []) ∷ [])

-- the calls of a checkpoint before its copy is made durable
abbrev pub laid_calls : Spare → ℕ → List (List ℕ) → List DiskCall
laid_calls spare generation records = shut_calls spare ++ Sync ∷ Cut 9 ∷ (mark_calls spare ++ body_calls generation records)

abbrev pub checkpoint_calls : Spare → ℕ → List (List ℕ) → List DiskCall
checkpoint_calls spare generation records =
    shut_calls spare ++ Sync ∷ Cut 9 ∷ (mark_calls spare ++ (body_calls generation records ++ Sync ∷ Write 8 (1 ∷ []) ∷ Sync ∷ []))
