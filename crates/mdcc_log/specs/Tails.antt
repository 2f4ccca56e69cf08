-- How many frames stand behind the records, and which log is read.
use Rattle.std.specs.Prelude.{◌≡◌, ◌≢◌, ◌⊎◌, ℕ, ◌+◌, ◌^◌, ◌<◌, ◌==◌, nat_lt, List, length, if◌then◌else◌, Result, Ok}
use Rattle.mdcc_log_file.specs.Area.{AreaLog, area_gate, generation_of, payloads_of, read_areas}
use Rattle.mdcc_log.specs.Checkpoint.{copy_of}
use Rattle.mdcc_log.specs.Crash.{IsCurrent, IsDead, IsOlder}
use Rattle.mdcc_log.specs.Frames.{packed}

-- how many frames there are after so many more payloads, where a checkpoint is made after some number of them; and after one more
abbrev pub tail_with : ℕ → ℕ → ℕ → ℕ
tail_with every tail more = if nat_lt (tail + more) every then tail + more else 0

abbrev pub tail_after : ℕ → ℕ → ℕ
tail_after every tail = tail_with every tail 1

-- the log that is read of the area in use, by its number, and the other
abbrev pub read_by : ℕ → List ℕ → List ℕ → Result AreaLog ℕ
read_by area current other = if area == 0 then read_areas current other else read_areas other current

-- an area that is not taken next to a log of this generation: it is no whole one of version 2, or of a smaller generation
abbrev pub IsPassedOver : ℕ → List ℕ → Type 0
IsPassedOver generation bytes = IsDead bytes ⊎ (IsOlder generation bytes ⊎ (area_gate bytes ≢ 1))

-- the area in use is read, where the other is not taken next to it
abbrev pub LogIsRead : Type 0
LogIsRead = (area : ℕ) (log : AreaLog) (current other : List ℕ) → IsCurrent area log current → IsPassedOver (generation_of log.head) other → read_by area current other ≡ Ok log

-- and the other, where it is a whole copy of all payloads: they are the same then, all of them records
abbrev pub CopyIsRead : Type 0
CopyIsRead = (area : ℕ) (log : AreaLog) (current other : List ℕ) → IsCurrent area log current → generation_of log.head + 1 < 2 ^ 64 → length (payloads_of log) < 2 ^ 64
    → other ≡ copy_of 1 (generation_of log.head + 1) (payloads_of log) → (read_by area current other ≡ Ok (packed log)) × (payloads_of (packed log) ≡ payloads_of log)
