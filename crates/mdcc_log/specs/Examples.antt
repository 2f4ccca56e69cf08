-- Areas byte by byte.
use Rattle.std.specs.Prelude.{◌≡◌, ℕ, List, [], ◌∷◌, ◌++◌, Ok, Err}
use Rattle.mdcc_log_file.specs.Area.{area_mark, payloads}
use Rattle.mdcc_log.specs.Checkpoint.{copy_of}

-- a payload of five bytes
abbrev pub first_boot_payload : List ℕ
first_boot_payload = 1 ∷ 1 ∷ 0 ∷ 0 ∷ 0 ∷ []

-- a log of version 1 with this payload: 19 bytes
abbrev pub example_log_bytes : List ℕ
example_log_bytes = 77 ∷ 68 ∷ 67 ∷ 67 ∷ 76 ∷ 79 ∷ 71 ∷ 49 ∷ 1 ∷ 5 ∷ 0 ∷ 0 ∷ 0 ∷ 1 ∷ 1 ∷ 0 ∷ 0 ∷ 0 ∷ 0 ∷ []

-- the copy that its first checkpoint makes, behind the area gate: 26 bytes
abbrev pub copied_body_bytes : List ℕ
copied_body_bytes = 1 ∷ 0 ∷ 0 ∷ 0 ∷ 0 ∷ 0 ∷ 0 ∷ 0 ∷ 1 ∷ 0 ∷ 0 ∷ 0 ∷ 0 ∷ 0 ∷ 0 ∷ 0 ∷ 5 ∷ 0 ∷ 0 ∷ 0 ∷ 1 ∷ 1 ∷ 0 ∷ 0 ∷ 0 ∷ 0 ∷ []

abbrev pub copy_bytes : ℕ → List ℕ
copy_bytes gate = 77 ∷ 68 ∷ 67 ∷ 67 ∷ 76 ∷ 79 ∷ 71 ∷ 50 ∷ gate ∷ copied_body_bytes

-- the log alone; the copy, alone and beside the log; a closed and a torn area gate; two areas of one generation; and a copy
-- beside nothing, cut short in its numbers, in its record, and before its gate
pub record ExamplesAreRead : Type 0 where
  pub alone : payloads example_log_bytes [] ≡ Ok (first_boot_payload ∷ [])
  pub copied : copy_of 1 1 (first_boot_payload ∷ []) ≡ copy_bytes 1
  pub both : payloads example_log_bytes (copy_bytes 1) ≡ Ok (first_boot_payload ∷ [])
  pub copy_alone : payloads [] (copy_bytes 1) ≡ Ok (first_boot_payload ∷ [])
  pub closed : payloads example_log_bytes (copy_bytes 0) ≡ Ok (first_boot_payload ∷ [])
  pub closed_alone : payloads (copy_bytes 0) [] ≡ Err 0
  pub torn_alone : payloads (copy_bytes 165) [] ≡ Err 0
  pub same_generation : payloads (copy_bytes 1) (copy_bytes 1) ≡ Err 9
  pub no_count : payloads [] (area_mark ++ 1 ∷ 1 ∷ 0 ∷ 0 ∷ 0 ∷ 0 ∷ 0 ∷ 0 ∷ 0 ∷ []) ≡ Err 17
  pub no_record : payloads [] (area_mark ++ 1 ∷ 1 ∷ 0 ∷ 0 ∷ 0 ∷ 0 ∷ 0 ∷ 0 ∷ 0 ∷ 1 ∷ 0 ∷ 0 ∷ 0 ∷ 0 ∷ 0 ∷ 0 ∷ 0 ∷ []) ≡ Err 25
  pub no_gate : payloads [] (area_mark ++ 1 ∷ 1 ∷ 0 ∷ 0 ∷ 0 ∷ 0 ∷ 0 ∷ 0 ∷ 0 ∷ 0 ∷ 0 ∷ 0 ∷ 0 ∷ 0 ∷ 0 ∷ 0 ∷ 0 ∷ []) ≡ Err 25
