-- What was read of an area of version 2.
use Rattle.std.specs.Prelude.{◌≡◌, ℕ, ◌+◌, ◌^◌, ◌<◌, ◌≤◌, List, ◌++◌, length, take, drop, Ok}
use Rattle.std.specs.Int.{w64, to_le_bytes}
use Rattle.mdcc_log_file.specs.Area.{copy_generation, records_bytes}
use Rattle.mdcc_log_file.specs.Crash.{AreShort}

-- These records stand behind the first 25 bytes, and what stands behind them begins at this offset.
pub record AreRecords (count : ℕ) (records : List (List ℕ)) (end : ℕ) (bytes : List ℕ) : Type 0 where
  pub front : bytes ≡ take 25 bytes ++ records_bytes records ++ drop end bytes
  pub ends : end ≡ 25 + length (records_bytes records)
  pub within : end ≤ length bytes
  pub counted : count ≡ length records
  pub short : AreShort records

-- A whole area of version 2 has this generation, from 1 on.
pub record IsNumbered (generation : ℕ) (bytes : List ℕ) : Type 0 where
  pub is : copy_generation bytes ≡ Ok generation
  pub some : 0 < generation
  pub fits : generation < 2 ^ 64
  pub long : 25 ≤ length bytes
  pub spelled : take 8 (drop 9 bytes) ≡ to_le_bytes w64 generation
