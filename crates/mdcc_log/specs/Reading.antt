-- What was read of an area.
use Rattle.std.specs.Prelude.{◌≡◌, ◌⊎◌, ℕ, ◌+◌, ◌<◌, ◌≤◌, true, false, List, ◌++◌, length, drop, Ok}
use Rattle.mdcc_log_file.specs.Log.{is_open}
use Rattle.mdcc_log_file.specs.Area.{AreaLog, generation_of, payloads_of, head_bytes, front_of, is_copy, copy_generation, fresh, read_area}
use Rattle.mdcc_log.specs.Crash.{IsLog}

-- This log stands in more than nine bytes, with its last gate here.
pub record EndsAtGate (log : AreaLog) (gate : ℕ) (bytes : List ℕ) : Type 0 where
  pub front : bytes ≡ front_of log ++ drop gate bytes
  pub within : gate < length bytes
  pub shut : is_open (drop gate bytes) ≡ false

-- This log was read of an area, where its last gate stands at the end of its front.
pub record IsReadAs (log : AreaLog) (bytes : List ℕ) : Type 0 where
  pub read : read_area bytes ≡ Ok log
  pub valid : (area : ℕ) → (is_copy bytes ≡ false → area ≡ 0) → IsLog area log
  pub numbered : is_copy bytes ≡ true → copy_generation bytes ≡ Ok (generation_of log.head)
  pub stands : ((length bytes ≤ 9) × (log ≡ fresh)) ⊎ ((9 < length bytes) × EndsAtGate log (length (front_of log)) bytes)

-- What was read of an area: a log with this generation, these payloads, frames from here on, so many, and the last gate here.
pub record AreaIs (generation : ℕ) (all : List (List ℕ)) (start tail gate : ℕ) (bytes : List ℕ) : Type 0 where
  pub log : AreaLog
  pub read : read_area bytes ≡ Ok log
  pub valid : (area : ℕ) → (is_copy bytes ≡ false → area ≡ 0) → IsLog area log
  pub numbered : is_copy bytes ≡ true → copy_generation bytes ≡ Ok generation
  pub generation_is : generation ≡ generation_of log.head
  pub payloads_are : all ≡ payloads_of log
  pub starts : start ≡ length (head_bytes log.head)
  pub counted : tail ≡ length log.tail
  pub gate_is : gate ≡ length (front_of log)
  pub stands : ((length bytes ≤ 9) × (log ≡ fresh)) ⊎ ((9 < length bytes) × EndsAtGate log gate bytes)
