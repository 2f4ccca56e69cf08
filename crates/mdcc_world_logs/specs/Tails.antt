-- How many frames the tails of the logs have.
use Rattle.std.specs.Prelude.{◌≡◌, ◌≢◌, ◌≤◌, ◌+◌, Err, Ok, Result, length, ℕ, ⊤}
use Rattle.mdcc_log_file.specs.Area.{AreaLog, read_areas}
use Rattle.mdcc_base.specs.declared.faults.Memory.{Memory}
use Rattle.mdcc_disks.specs.Memory.{disk_of}
use Rattle.mdcc_world_logs.specs.declared.logs.Logs.{Logs}
use Rattle.mdcc_world_logs.specs.declared.starting.Started.{Started}
use Rattle.mdcc_def_simulation.specs.Checkpoints.{tail_after_append}

-- the frames of the tail of a log that was read
abbrev pub tail_of : Result AreaLog ℕ → ℕ
tail_of (Ok log) = length log.tail
tail_of (Err offset) = 0

-- the frames of the tail of a centre's log, by what its two areas hold
abbrev pub tail_at : Logs → ℕ → ℕ
tail_at logs a = tail_of (read_areas (disk_of logs.disks a).bytes (disk_of logs.disks (a + 16)).bytes)

-- The tail of the log of this centre has so many frames now, and those of the others are as they were.
pub record HasTail (old new : Logs) (a tail : ℕ) : Type 0 where
  pub here : tail_at new a ≡ tail
  pub others : (b : ℕ) → b ≤ 9 → b ≢ a → tail_at new b ≡ tail_at old b

-- a centre that starts has appended its boot, and one that does not leaves its log as it was
abbrev pub StartsWithTail : Result Started Memory → Logs → Logs → ℕ → Type 0
StartsWithTail (Ok (Started.Node node epoch)) old new a = HasTail old new a (tail_after_append (tail_at old a))
StartsWithTail (Ok _) old new a = HasTail old new a (tail_at old a)
StartsWithTail (Err fault) old new a = ⊤
