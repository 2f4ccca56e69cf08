-- The device calls of a log in one file.
use Rattle.std.specs.Prelude.{◌≡◌, ◌⊎◌, ℕ, ◌+◌, ◌-◌, ◌<◌, ◌≤◌, ◌==◌, List, [], ◌∷◌, ◌++◌, length, sum, take, slice_index, if◌then◌else◌, Option, None}
use Rattle.std.specs.List.{AllByRecursion}
use Rattle.std.specs.Option.{option_map}
use Rattle.mdcc_disks.specs.Disks.{DiskCall}
use Rattle.mdcc_disks.specs.Disks.DiskCall.{Read, Write, Cut, Sync}
use Rattle.mdcc_log_file.specs.Log.{log_bytes, frame_body}

-- the calls of an append to a log of this size: the frame behind the closed gate, with a closed gate behind it; and then the
-- gate is opened
abbrev pub append_calls : ℕ → List ℕ → List DiskCall
append_calls size payload = Write size (frame_body payload ++ 0 ∷ []) ∷ Sync ∷ Write (size - 1) (1 ∷ []) ∷ Sync ∷ []

-- the calls that are told, where they are, with more behind them
abbrev pub with_calls : List DiskCall → Option (List DiskCall) → Option (List DiskCall)
with_calls more calls = option_map (λ before. before ++ more) calls

-- the calls that are told after a front of these calls was made; or none are told any more
pub record MadeSome (calls : List DiskCall) (old new : Option (List DiskCall)) : Type 0 where
  pub made : ℕ
  pub within : made ≤ length calls
  pub told : (new ≡ None) ⊎ (new ≡ with_calls (take made calls) old)

-- ---- the calls of an opening

-- Reads that gave so many bytes each gave all of these, and each some.
pub record AreReads (size : ℕ) (counts : List ℕ) : Type 0 where
  pub some : AllByRecursion (λ count. 0 < count) counts
  pub all : sum counts ≡ size

-- the reads of a file of this size from an offset on: each asks for all that is left, and gives so many bytes
abbrev pub read_calls : ℕ → ℕ → List ℕ → List DiskCall
read_calls size offset [] = []
read_calls size offset (count ∷ counts) = Read offset (size - offset) ∷ read_calls size (offset + count) counts

-- a log is begun
abbrev pub begin_calls : List DiskCall
begin_calls = Cut 0 ∷ Write 0 (log_bytes []) ∷ Sync ∷ []

-- the last gate is closed, where it is not
abbrev pub close_calls : ℕ → List ℕ → List DiskCall
close_calls gate bytes = if slice_index bytes gate == 0 then [] else Write gate (0 ∷ []) ∷ Sync ∷ []

-- what stands behind it is cut off, where something does
abbrev pub cut_calls : ℕ → List ℕ → List DiskCall
cut_calls gate bytes = if length bytes == gate + 1 then [] else Cut (gate + 1) ∷ Sync ∷ []

-- The calls that are told after a file of this size was read whole with these calls before and behind; and after a front of them.
pub record ReadsAll (size : ℕ) (calls : List ℕ → List DiskCall) (old new : Option (List DiskCall)) : Type 0 where
  pub counts : List ℕ
  pub are : AreReads size counts
  pub told : new ≡ with_calls (calls counts) old

pub record ReadsSome (size : ℕ) (calls : List ℕ → List DiskCall) (old new : Option (List DiskCall)) : Type 0 where
  pub counts : List ℕ
  pub are : AreReads size counts
  pub made : MadeSome (calls counts) old new

abbrev pub IsRead : DiskCall → Type 0
IsRead (Read offset count) = Unit {0}
IsRead _ = ⊥

-- the calls that are told after some reads; or none are told any more
pub record OnlyReads (old new : Option (List DiskCall)) : Type 0 where
  pub reads : List DiskCall
  pub each : AllByRecursion IsRead reads
  pub told : (new ≡ None) ⊎ (new ≡ with_calls reads old)
