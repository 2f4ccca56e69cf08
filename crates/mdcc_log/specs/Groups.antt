-- Several payloads that are appended together.
use Rattle.std.specs.Prelude.{◌≡◌, ◌⊎◌, ℕ, ◌+◌, ◌-◌, ◌^◌, ◌≤◌, ◌<◌, List, [], ◌∷◌, ◌++◌, length, Result, Ok}
use Rattle.std.specs.List.{flat_map}
use Rattle.mdcc_log_file.specs.Append.{group_body}
use Rattle.mdcc_log_file.specs.Log.{frame_body, frame_bytes, log_limit}
use Rattle.mdcc_log_file.specs.Crash.{AreShort}
use Rattle.mdcc_log_file.specs.Area.{AreaLog, front_of}
use Rattle.mdcc_log.specs.Crash.{IsCurrent, IsLog}
use Rattle.mdcc_log.specs.Frames.{OpenAreas}

-- opening gives these payloads, or these and all of the group
abbrev pub ReadsAsAllOrNone : List (List ℕ) → List (List ℕ) → Result (List (List ℕ)) ℕ → Type 0
ReadsAsAllOrNone before group read = (read ≡ Ok before) ⊎ (read ≡ Ok (before ++ group))

-- with these payloads behind the others
abbrev pub with_payloads : AreaLog → List (List ℕ) → AreaLog
with_payloads log group = record { head = log.head; tail = log.tail ++ group }

-- this log with the frames of a group behind it, of which the first gate may hold anything
pub record IsUndecidedGroup (area : ℕ) (log : AreaLog) (group : List (List ℕ)) (bytes : List ℕ) : Type 0 where
  pub valid : IsLog area log
  pub short : AreShort group
  pub gate : ℕ
  pub file : bytes ≡ front_of log ++ gate ∷ (group_body group ++ 0 ∷ [])

-- what a crash may leave of the area in use while a group is appended
abbrev pub MayHaveGroup : ℕ → AreaLog → List (List ℕ) → List ℕ → Type 0
MayHaveGroup area log group bytes = IsCurrent area log bytes ⊎ IsUndecidedGroup area log group bytes

-- and while all are copied then
abbrev pub MayHaveDueGroup : ℕ → AreaLog → List (List ℕ) → List ℕ → Type 0
MayHaveDueGroup area log group bytes = MayHaveGroup area log group bytes ⊎ IsCurrent area (with_payloads log group) bytes

-- how many bytes their frames take, and how many their records
abbrev pub frames_size : List (List ℕ) → ℕ
frames_size group = length (flat_map frame_bytes group)

abbrev pub records_size : List (List ℕ) → ℕ
records_size group = length (flat_map frame_body group)

-- With these payloads a checkpoint is due, for which there is no room: no generation follows, or the other area would pass the limit.
abbrev pub IsCopyFullFor : OpenAreas → List (List ℕ) → Type 0
IsCopyFullFor frames group =
    (frames.every ≤ frames.tail + length group) × ((frames.generation ≡ 2 ^ 64 - 1) ⊎ (log_limit < frames.body + records_size group + 26))

-- There is no room for these payloads: all payloads with them would pass the limit in an area of version 1, or the area in use would, or
-- a checkpoint would be due that has none.
abbrev pub AreFull : OpenAreas → List (List ℕ) → Type 0
AreFull frames group =
    (log_limit < frames.body + frames.count + 9 + frames_size group)
    ⊎ ((log_limit < frames.size + frames_size group) ⊎ IsCopyFullFor frames group)
