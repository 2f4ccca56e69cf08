-- What a checkpoint writes, and what a crash may leave of it.
use Rattle.std.specs.Prelude.{◌≡◌, ◌≢◌, ◌⊎◌, ℕ, ◌+◌, ◌≤◌, ◌<◌, nat_lt, Bool, true, false, List, [], ◌∷◌, ◌++◌, length, take, drop, replicate, if◌then◌else◌}
use Rattle.std.specs.List.{flat_map}
use Rattle.mdcc_disks.specs.Disks.{DiskCall}
use Rattle.mdcc_disks.specs.Disks.DiskCall.{Write}
use Rattle.mdcc_log_file.specs.Log.{frame_body, payload_limit}
use Rattle.mdcc_log_file.specs.Crash.{AreShort}
use Rattle.mdcc_log_file.specs.declared.area.Spare.{Spare}
use Rattle.mdcc_log_file.specs.declared.area.Spare.TheVariants as spares
use Rattle.mdcc_log_file.specs.Area.{area_mark, area_gate, records_bytes, with_gate}

-- its area gate is closed
abbrev pub IsShut : List ℕ → Type 0
IsShut c = area_gate c ≡ 0

-- the area with its area gate closed, or begun where it was too short to have one
abbrev pub shut_bytes : List ℕ → List ℕ
shut_bytes bytes = if nat_lt 9 (length bytes) then with_gate 0 bytes else area_mark ++ 0 ∷ []

-- what a crash may leave while the area gate is closed
abbrev pub MayShut : List ℕ → List ℕ → Type 0
MayShut bytes c = (c ≡ bytes) ⊎ (((length bytes ≤ 9) × (length c ≤ 9)) ⊎ ((9 < length bytes) × ((area_gate bytes ≢ 0) × ((gate : ℕ) × (c ≡ with_gate gate bytes)))))

-- whether the mark of version 2 has to be written
abbrev pub needs_mark : Spare → Bool
needs_mark spares.Short = false
needs_mark (spares.Long closed marked) = if marked then false else true

-- Behind a mark that may have to be written stands a closed area gate.
pub record IsShutAs (spare : Spare) (bytes : List ℕ) : Type 0 where
  pub long : 9 ≤ length bytes
  pub gate : area_gate bytes ≡ 0
  pub marked : needs_mark spare ≡ false → take 8 bytes ≡ area_mark

-- The record of this payload stands at an offset, in so many bytes at most.
pub record IsRecordAt (from most : ℕ) (payload bytes : List ℕ) : Type 0 where
  pub rest : List ℕ
  pub stands : drop from bytes ≡ frame_body payload ++ rest
  pub short : length payload ≤ payload_limit
  pub fits : length (frame_body payload) ≤ most

-- a record behind so many bytes of a gate
abbrev pub spaced : ℕ → List ℕ → List ℕ
spaced gap payload = replicate gap 1 ++ frame_body payload

-- So many records of these payloads stand from this offset on, each behind such a gap, up to an end at most, and find room where
-- they are copied to.
pub record IsSource (gap from end room count : ℕ) (payloads : List (List ℕ)) (bytes : List ℕ) : Type 0 where
  pub rest : List ℕ
  pub stand : drop from bytes ≡ flat_map (spaced gap) payloads ++ rest
  pub counted : count ≡ length payloads
  pub short : AreShort payloads
  pub ends : from + length (flat_map (spaced gap) payloads) ≤ end
  pub fits : length (records_bytes payloads) ≤ room

-- ---- its calls

-- the area gate is closed, where it is not
abbrev pub shut_calls : Spare → List DiskCall
shut_calls spares.Short = Write 0 (area_mark ++ 0 ∷ []) ∷ []
shut_calls (spares.Long closed marked) = if closed then [] else Write 8 (0 ∷ []) ∷ []

-- the mark is written, where it does not stand there
abbrev pub mark_calls : Spare → List DiskCall
mark_calls spares.Short = []
mark_calls (spares.Long closed marked) = if marked then [] else Write 0 area_mark ∷ []

-- the records from this offset on, each by one call
abbrev pub record_calls : ℕ → List (List ℕ) → List DiskCall
record_calls offset [] = []
record_calls offset (record' ∷ records) = Write offset (frame_body record') ∷ record_calls (offset + length (frame_body record')) records
