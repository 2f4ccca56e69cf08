-- What a crash leaves of the two areas of a log.
use Rattle.std.specs.Prelude.{◌≡◌, ◌⊎◌, ℕ, ◌+◌, ◌^◌, ◌≤◌, ◌<◌, true, false, ◌==◌, List, [], ◌∷◌, ◌++◌, length, if◌then◌else◌, Result, Ok}
use Rattle.mdcc_log_file.specs.Log.{frame_body, payload_limit}
use Rattle.mdcc_log_file.specs.Crash.{AreShort}
use Rattle.mdcc_log_file.specs.Area.{Head, AreaLog, generation_of, payloads_of, copy_body, front_of, area_mark, area_gate, generation_in, is_second, payloads}
use Rattle.mdcc_log_file.specs.Area.Head.{Version1, Version2}

-- what may stand before the frames of an area: version 1 in area 0 alone, and version 2 with a generation from 1 on
abbrev pub IsHead : ℕ → Head → Type 0
IsHead area Version1 = area ≡ 0
IsHead area (Version2 generation records) = (0 < generation) × ((generation < 2 ^ 64) × ((length records < 2 ^ 64) × AreShort records))

-- a log that may stand in this area
pub record IsLog (area : ℕ) (log : AreaLog) : Type 0 where
  pub head : IsHead area log.head
  pub short : AreShort log.tail

-- The area in use: this log was never begun, or its last gate is closed. Behind that gate anything may stand.
pub record IsCurrent (area : ℕ) (log : AreaLog) (bytes : List ℕ) : Type 0 where
  pub valid : IsLog area log
  pub file : ((log.head ≡ Version1) × ((log.tail ≡ []) × (length bytes ≤ 9))) ⊎ ((rest : List ℕ) × (bytes ≡ front_of log ++ 0 ∷ rest))

-- this log with the frame of one more payload behind it, whose gate may hold anything
pub record IsUndecided (area : ℕ) (log : AreaLog) (payload bytes : List ℕ) : Type 0 where
  pub valid : IsLog area log
  pub fits : length payload ≤ payload_limit
  pub gate : ℕ
  pub file : bytes ≡ front_of log ++ gate ∷ (frame_body payload ++ 0 ∷ [])

-- what a crash may leave of the area in use while one more payload is appended, or while such an area is opened
abbrev pub IsBetween : ℕ → AreaLog → List ℕ → List ℕ → Type 0
IsBetween area log payload bytes = IsCurrent area log bytes ⊎ IsUndecided area log payload bytes

-- an area that is no whole one of version 2, whatever an opening does: too short, without its mark, or with a closed area gate
abbrev pub IsDead : List ℕ → Type 0
IsDead bytes = (length bytes ≤ 9) ⊎ ((is_second bytes ≡ false) ⊎ (area_gate bytes ≡ 0))

-- an area of a smaller generation, whose area gate may hold anything
pub record IsOlder (generation : ℕ) (bytes : List ℕ) : Type 0 where
  pub marked : is_second bytes ≡ true
  pub long : 25 ≤ length bytes
  pub some : 0 < generation_in bytes
  pub older : generation_in bytes < generation

-- the payloads of this log packed, with the next generation, whose area gate may hold anything
pub record IsCopy (log : AreaLog) (bytes : List ℕ) : Type 0 where
  pub generation : generation_of log.head + 1 < 2 ^ 64
  pub count : length (payloads_of log) < 2 ^ 64
  pub short : AreShort (payloads_of log)
  pub gate : ℕ
  pub file : bytes ≡ area_mark ++ gate ∷ (copy_body (generation_of log.head + 1) (payloads_of log) ++ 0 ∷ [])

-- the area that is not in use: next to this log its payloads are read, or the same ones
abbrev pub IsIdle : AreaLog → List ℕ → Type 0
IsIdle log bytes = IsDead bytes ⊎ (IsOlder (generation_of log.head) bytes ⊎ IsCopy log bytes)

-- what opening gives of the area in use, by its number, and the other
abbrev pub payloads_by : ℕ → List ℕ → List ℕ → Result (List (List ℕ)) ℕ
payloads_by area current other = if area == 0 then payloads current other else payloads other current

-- opening gives these payloads, or these and one more
abbrev pub ReadsAsEither : List (List ℕ) → List ℕ → Result (List (List ℕ)) ℕ → Type 0
ReadsAsEither before payload read = (read ≡ Ok before) ⊎ (read ≡ Ok (before ++ payload ∷ []))

-- what opening reads of what a crash leaves
abbrev pub CurrentIsRead : Type 0
CurrentIsRead = (area : ℕ) (log : AreaLog) (current other : List ℕ) → IsCurrent area log current → IsIdle log other → payloads_by area current other ≡ Ok (payloads_of log)

abbrev pub BetweenIsRead : Type 0
BetweenIsRead = (area : ℕ) (log : AreaLog) (payload current other : List ℕ) → IsBetween area log payload current → IsIdle log other → ReadsAsEither (payloads_of log) payload (payloads_by area current other)
