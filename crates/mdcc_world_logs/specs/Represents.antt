-- Which facts of its centres the logs have.
use Rattle.std.specs.Prelude.{◌≡◌, ◌≢◌, ◌≤◌, ◌<◌, ◌+◌, ◌-◌, ◌==◌, ◌∷◌, Bool, List, Ok, get_or, if◌then◌else◌, length, true, ℕ}
use Rattle.mdcc_log_file.specs.Area.{AreaLog, payloads, payloads_of, read_areas}
use Rattle.mdcc_log.specs.AtRest.{IsAtRest}
use Rattle.mdcc_log.specs.Crash.{ReadsAsEither}
use Rattle.mdcc_log.specs.Frames.{OpenAreas}
use Rattle.mdcc_log.specs.Room.{IsRoomyLog}
use Rattle.mdcc_log_file.specs.declared.area.Spare.TheVariants as spares
use Rattle.mdcc_disks.specs.Disks.{Only}
use Rattle.mdcc_disks.specs.Memory.{AllMemory, at_place, disk_of, is_there, may_leave_of, standing}
use Rattle.mdcc_def_messages.specs.Spelling.{fact_bytes, encodings_of}
use Rattle.mdcc_world_logs.specs.declared.logs.Logs.{Logs}
use Rattle.mdcc_def_messages.specs.declared.facts.Fact.{Fact}
use Rattle.mdcc_def_simulation.specs.Checkpoints.{checkpoint_every}

-- the log of no centre
abbrev pub no_log : OpenAreas
no_log = record { centre = 0; area = 0; every = 0; generation = 0; count = 0; start = 0; tail = 0; body = 0; size = 0; spare = spares.Short }

-- the log that is open for a centre
abbrev pub log_at : Logs → ℕ → OpenAreas
log_at logs a = get_or logs.open.items (a - 1) no_log

-- the areas of a centre have the log of these facts, all of it durable, and the open log stands at its end
pub record IsOpenLogOf (logs : Logs) (a : ℕ) (facts : List Fact) : Type 0 where
  pub centre : (log_at logs a).centre ≡ a
  pub every : (log_at logs a).every ≡ checkpoint_every
  pub at_rest : IsAtRest disk_of may_leave_of logs.disks (log_at logs a) (encodings_of facts)

-- Of the areas of a centre these facts are read, and a crash leaves them as they are. Their log takes no more bytes than one of version
-- 1 would, with generations left. Where the centre is up, its log is open, and no checkpoint is due.
pub record IsLogOf (logs : Logs) (a : ℕ) (is_up : Bool) (facts : List Fact) : Type 0 where
  pub range : a ≤ 9
  pub there : is_there logs.disks a ≡ true
  pub there_other : is_there logs.disks (a + 16) ≡ true
  pub log : AreaLog
  pub read : read_areas (disk_of logs.disks a).bytes (disk_of logs.disks (a + 16)).bytes ≡ Ok log
  pub payloads_are : payloads_of log ≡ encodings_of facts
  pub roomy : IsRoomyLog log
  pub durable : Only (disk_of logs.disks a).bytes (may_leave_of logs.disks a)
  pub durable_other : Only (disk_of logs.disks (a + 16)).bytes (may_leave_of logs.disks (a + 16))
  pub few : is_up ≡ true → length log.tail < checkpoint_every
  pub «open» : is_up ≡ true → IsOpenLogOf logs a facts

-- so it is of all centres, of which these are up
pub record LogsRepresent (logs : Logs) (centres : ℕ) (up : ℕ → Bool) (facts : ℕ → List Fact) : Type 0 where
  pub as_many : length logs.open.items ≡ centres
  pub each : (a : ℕ) → 1 ≤ a → a ≤ centres → IsLogOf logs a (up a) (facts a)

-- these are the logs of some facts, and this centre is up
abbrev pub IsOpenAt : Logs → ℕ → Type 0
IsOpenAt logs a = (centres : ℕ) × (up : ℕ → Bool) × (facts : ℕ → List Fact) × LogsRepresent logs centres up facts × (up a ≡ true)

-- the same centres are up, but for this one
abbrev pub with_up : (ℕ → Bool) → ℕ → Bool → ℕ → Bool
with_up up a is b = if a == b then is else up b

-- facts with one more of a centre
abbrev pub with_fact_at : (ℕ → List Fact) → ℕ → Fact → ℕ → List Fact
with_fact_at facts a fact b = if a == b then fact ∷ facts b else facts b

-- One fact more of a centre was perhaps not appended: of whatever a crash leaves of its areas these facts are read, with it or without.
-- The logs of the other centres stand.
pub record MayHave (logs : Logs) (centres : ℕ) (up : ℕ → Bool) (a : ℕ) (facts : ℕ → List Fact) (fact : Fact) : Type 0 where
  pub there : is_there logs.disks a ≡ true
  pub there_other : is_there logs.disks (a + 16) ≡ true
  pub left : (first second : List ℕ) → may_leave_of logs.disks a first → may_leave_of logs.disks (a + 16) second
      → ReadsAsEither (encodings_of (facts a)) (fact_bytes fact) (payloads first second)
  pub others : (b : ℕ) → 1 ≤ b → b ≤ centres → b ≢ a → IsLogOf logs b (up b) (facts b)

-- the disks hold what they held
pub record HoldSame (old new : AllMemory) : Type 0 where
  pub counted : new.count ≡ old.count
  pub contents : (p : ℕ) → standing (at_place new p) ≡ standing (at_place old p)
