-- Room for one more payload in an open log.
use Rattle.std.specs.Prelude.{◌≡◌, ◌⊎◌, ℕ, ◌+◌, ◌-◌, ◌^◌, ◌≤◌, ◌<◌, List, length}
use Rattle.mdcc_log_file.specs.Log.{log_bytes, log_limit}
use Rattle.mdcc_log_file.specs.Area.{AreaLog, generation_of, payloads_of}
use Rattle.mdcc_log.specs.Frames.{OpenAreas, IsInUse}

-- The other area has room for a copy of all payloads, and a generation follows.
pub record HasCopyRoom (frames : OpenAreas) : Type 0 where
  pub fits : frames.body + 26 ≤ log_limit
  pub generation : frames.generation + 1 < 2 ^ 64
  pub count : frames.count < 2 ^ 64

-- With a payload of this length a checkpoint is due, for which there is no room: no generation follows, or the other area would pass
-- the limit.
abbrev pub IsCopyFull : OpenAreas → ℕ → Type 0
IsCopyFull frames more = (frames.every ≤ frames.tail + 1) × ((frames.generation ≡ 2 ^ 64 - 1) ⊎ (log_limit < frames.body + (more + 4) + 26))

-- There is no room for a payload of this length: all payloads with it would pass the limit in an area of version 1, or the area in
-- use would, or a checkpoint would be due that has none.
abbrev pub IsFull : OpenAreas → ℕ → Type 0
IsFull frames more = (log_limit < frames.body + frames.count + 9 + (more + 5)) ⊎ ((log_limit < frames.size + (more + 5)) ⊎ IsCopyFull frames more)

-- So many more payloads stand behind the others: in the area in use, or where a checkpoint was due in a copy of all.
pub record HasGrown (more : ℕ) (old new : OpenAreas) : Type 0 where
  pub count : new.count ≡ old.count + more
  pub tail : ((new.generation ≡ old.generation) × (new.tail ≡ old.tail + more)) ⊎ ((old.every ≤ old.tail + more) × ((new.generation ≡ old.generation + 1) × (new.tail ≡ 0)))

-- An area that takes no more than one of version 1 would, with generations left: it is of this generation, and has so many frames
-- and so many payloads.
pub record IsRoomy (generation tail count : ℕ) : Type 0 where
  pub generations : generation ≤ count
  pub frames : tail ≤ count
  pub records : (generation ≡ 0) ⊎ (17 + tail ≤ count)

abbrev pub IsRoomyLog : AreaLog → Type 0
IsRoomyLog log = IsRoomy (generation_of log.head) (length log.tail) (length (payloads_of log))

-- A log has no room where the bytes of version 1 would pass the limit, and such a log only there, where checkpoints are due after so
-- many frames.
abbrev pub FullByLength : Type 1
FullByLength = (frames : OpenAreas) (log : AreaLog) (bytes : List ℕ) (may_leave : List ℕ → Type 0) (more : ℕ) → IsInUse frames log bytes may_leave
    → (log_limit < length (log_bytes (payloads_of log)) + (more + 5) → IsFull frames more)
    × (IsRoomyLog log → 17 ≤ frames.every → IsFull frames more → log_limit < length (log_bytes (payloads_of log)) + (more + 5))

-- with one payload or more it stays such a log
abbrev pub RoomyGrows : Type 0
RoomyGrows = (more : ℕ) (old new : OpenAreas) → 1 ≤ more → IsRoomy old.generation old.tail old.count → 17 ≤ old.every → HasGrown more old new → IsRoomy new.generation new.tail new.count
