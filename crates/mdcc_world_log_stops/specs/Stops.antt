-- A checkpoint that stops inside one of its device calls.
use Rattle.std.specs.Prelude.{◌≡◌, ℕ, ◌+◌, ◌^◌, ◌<◌, ◌≤◌, Bool, false, nat_le, nat_lt, List, [], ◌∷◌, ◌++◌, length, if◌then◌else◌, Ok}
use Rattle.mdcc_base.specs.declared.outside.Image.{Image}
use Rattle.mdcc_disks.specs.Contents.{Contents, image_of}
use Rattle.mdcc_disks.specs.Disks.{DiskCall}
use Rattle.mdcc_disks.specs.Disks.DiskCall.{Write, Cut, Sync}
use Rattle.mdcc_log_file.specs.declared.area.Spare.{Spare}
use Rattle.mdcc_log_file.specs.Area.{AreaLog, generation_of, payloads_of}
use Rattle.mdcc_log.specs.Checkpoint.{copy_of}
use Rattle.mdcc_log.specs.Crash.{IsCurrent}
use Rattle.mdcc_log.specs.Frames.{appended, laid_calls, packed}
use Rattle.mdcc_log_file.specs.Copying.{shut_calls}
use Rattle.mdcc_log.specs.Room.{IsRoomyLog}
use Rattle.mdcc_log.specs.Tails.{IsPassedOver, read_by}

-- the calls of one that stops in this call, 1 to 7: up to that one, but for a sync that stops
abbrev pub stopped_calls : ℕ → Spare → ℕ → List (List ℕ) → List DiskCall
stopped_calls call spare generation records =
    if nat_lt call 3 then shut_calls spare
    else (if nat_lt call 4 then shut_calls spare ++ Sync ∷ Cut 9 ∷ []
    else (if nat_lt call 6 then laid_calls spare generation records else laid_calls spare generation records ++ Sync ∷ Write 8 (1 ∷ []) ∷ []))

-- whether a checkpoint counts that stops in this call, 1 to 7, where this image is left
abbrev pub is_copy_kept : ℕ → Image → Bool
is_copy_kept call Image.Kept = nat_le 6 call
is_copy_kept call _ = false

-- the log then: its payloads are the same, and it has no tail or the one that it had
abbrev pub stopped_log : ℕ → Image → AreaLog → AreaLog
stopped_log call image log = if is_copy_kept call image then packed log else log

-- a copy whose area gate was opened since the last sync
abbrev pub opening_copy : ℕ → List (List ℕ) → Contents
opening_copy generation records = record { kept = copy_of 1 generation records; lost = copy_of 0 generation records; torn = copy_of 165 generation records }

-- What the disk of the other area holds, where a checkpoint of this log stopped in this call: until the area gate is written, no image is
-- taken next to the log.
pub record IsStoppedCopy (call : ℕ) (log : AreaLog) (contents : Contents) : Type 0 where
  pub generation : generation_of log.head + 1 < 2 ^ 64
  pub count : length (payloads_of log) < 2 ^ 64
  pub early : call < 6 → (image : Image) → IsPassedOver (generation_of log.head) (image_of image contents)
  pub late : 6 ≤ call → contents ≡ opening_copy (generation_of log.head + 1) (payloads_of log)

-- what is read after the crash
abbrev pub StoppedIsRead : Type 0
StoppedIsRead = (area call : ℕ) (image : Image) (log : AreaLog) (current : List ℕ) (contents : Contents) → IsCurrent area log current → IsStoppedCopy call log contents
    → read_by area current (image_of image contents) ≡ Ok (stopped_log call image log)

-- A log that takes no more than one of version 1, with generations left, stays so where a payload was appended and then a checkpoint stopped.
abbrev pub StoppedIsRoomy : Type 0
StoppedIsRoomy = (every call : ℕ) (image : Image) (log : AreaLog) (payload : List ℕ) → IsRoomyLog log → 17 ≤ every → every ≤ length log.tail + 1 → IsRoomyLog (stopped_log call image (appended log payload))
