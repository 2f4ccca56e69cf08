-- The frames that were read of a file.
use Rattle.std.specs.Prelude.{◌≡◌, ℕ, ◌+◌, ◌<◌, false, List, ◌++◌, length, take, drop}
use Rattle.std.specs.List.{flat_map}
use Rattle.mdcc_log_file.specs.Log.{frame_bytes, is_open}
use Rattle.mdcc_log_file.specs.Crash.{AreShort}

-- So many frames stand from this offset on, and the last gate at the end of them; their payloads were added to those before.
pub record AreFrames (start : ℕ) (before all : List (List ℕ)) (count gate : ℕ) (bytes : List ℕ) : Type 0 where
  pub tail : List (List ℕ)
  pub added : all ≡ before ++ tail
  pub counted : count ≡ length tail
  pub front : bytes ≡ take start bytes ++ flat_map frame_bytes tail ++ drop gate bytes
  pub ends : gate ≡ start + length (flat_map frame_bytes tail)
  pub within : gate < length bytes
  pub shut : is_open (drop gate bytes) ≡ false
  pub short : AreShort tail
