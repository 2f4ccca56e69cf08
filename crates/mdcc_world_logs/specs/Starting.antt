-- What comes of a start of a centre.
use Rattle.std.specs.Prelude.{◌≡◌, ◌≤◌, ◌+◌, ◌<◌, ◌∷◌, [], Bool, Err, List, Ok, Result, nat_lt, true, false, ℕ, ⊤}
use Rattle.mdcc_base.specs.declared.faults.Memory.{Memory}
use Rattle.mdcc_log_file.specs.declared.fault.LogFault.{LogFault}
use Rattle.mdcc_disks.specs.Memory.{AllMemory, disk_of, is_there, may_leave_of}
use Rattle.mdcc_log_file.specs.Log.{log_limit}
use Rattle.mdcc_node_log.specs.Nodes.{CentreStore, IsNodeOf, are_stored, store_cells}
use Rattle.mdcc_world_logs.specs.Represents.{LogsRepresent, with_fact_at}
use Rattle.mdcc_world_logs.specs.Tails.{tail_at}
use Rattle.mdcc_world_logs.specs.declared.logs.Logs.{Logs}
use Rattle.mdcc_world_logs.specs.declared.starting.Attempt.{Attempt}
use Rattle.mdcc_world_logs.specs.declared.starting.Started.{Started}
use Rattle.mdcc_node.specs.declared.node.Node.{Node}
use Rattle.mdcc_option.specs.declared.cluster.Cluster.{Cluster}
use Rattle.mdcc_def_protocol.specs.Cells.{cells_held}
use Rattle.mdcc_def_protocol.specs.Facts.{epoch_of}
use Rattle.mdcc_def_messages.specs.Lengths.{cells_needed, log_length}
use Rattle.mdcc_def_protocol.specs.Volatile.{initial_volatile}
use Rattle.mdcc_def_messages.specs.declared.facts.Fact.{Fact}
use Rattle.mdcc_node_log.specs.Starting.{IsAsBefore, Runs, size_with_boot}
use Rattle.mdcc_node_log.specs.declared.fault.StartFault.{StartFault}
use Rattle.mdcc_def_rules.specs.declared.node.BootFault.{BootFault}
use Rattle.mdcc_def_rules.specs.Boot.{next_boot}
use Rattle.mdcc_def_simulation.specs.Checkpoints.{checkpoint_every, tail_after_append}

-- ---- over the disk of a centre

-- how many cells are needed for the next boot, with those that the facts hold
abbrev pub cells_with_boot : List Fact → ℕ
cells_with_boot facts = cells_held facts + cells_needed (next_boot facts)

-- what comes of a start that is refused
abbrev pub lacking : StartFault → Result Attempt Memory
lacking (StartFault.Log LogFault.LogFull) = Ok Attempt.Full
lacking (StartFault.Boot (BootFault.Room needed all)) = Ok (Attempt.NoRoom needed)
lacking _ = Err (record {})

-- a centre that runs; or none, where the new boot would pass the limit of its log or the cells of its node; or there was no memory
abbrev pub StartsOver : Result Attempt Memory → Cluster → ℕ → List Fact → AllMemory → AllMemory → Type 0
StartsOver (Ok (Attempt.Runs centre)) cluster me facts old new = Runs are_stored store_cells cluster.cells centre cluster me checkpoint_every facts disk_of may_leave_of old new
StartsOver (Ok Attempt.Full) cluster me facts old new = (cells_with_boot facts ≤ cluster.cells) × (log_limit < size_with_boot facts)
StartsOver (Ok (Attempt.NoRoom needed)) cluster me facts old new = (cluster.cells < cells_with_boot facts) × (needed ≡ cells_with_boot facts)
StartsOver (Err fault) cluster me facts old new = ⊤

-- where none runs, but for want of memory, the areas have the log of these payloads, all of it durable
abbrev pub OnNone : Result Attempt Memory → List (List ℕ) → ℕ → AllMemory → AllMemory → Type 0
OnNone (Ok (Attempt.Runs centre)) all me old new = ⊤
OnNone (Ok _) all me old new = IsAsBefore all me checkpoint_every disk_of may_leave_of old new
OnNone (Err fault) all me old new = ⊤

-- the tail of the log of a centre that runs has the frame of its boot more, or none where a checkpoint was due with it
abbrev pub RunsWithTail : Result Attempt Memory → ℕ → Type 0
RunsWithTail (Ok (Attempt.Runs centre)) tail = centre.log.tail ≡ tail_after_append tail
RunsWithTail _ tail = ⊤

-- ---- among the centres

-- The node of a centre has its facts and the boot of the next epoch, and so has its log, which lies within the limit; then these centres are up.
pub record HasStarted (node : Node CentreStore) (epoch : ℕ) (logs : Logs) (cluster : Cluster) (centres : ℕ) (up : ℕ → Bool) (a : ℕ) (facts : ℕ → List Fact) : Type 0 where
  pub next : epoch ≡ epoch_of (facts a) + 1
  pub node_of : IsNodeOf node cluster a (Fact.Booted epoch ∷ facts a) initial_volatile
  pub stand : LogsRepresent logs centres up (with_fact_at facts a (Fact.Booted epoch))
  pub room : nat_lt log_limit (log_length (Fact.Booted epoch ∷ facts a)) ≡ false

-- it has started; or the new boot would pass the limit of the log or the cells of the node; or there was no memory
abbrev pub Starts : Result Started Memory → Logs → Cluster → ℕ → (ℕ → Bool) → ℕ → (ℕ → List Fact) → Type 0
Starts (Ok (Started.Node node epoch)) logs cluster centres up a facts = HasStarted node epoch logs cluster centres up a facts
Starts (Ok Started.Full) logs cluster centres up a facts =
    (cells_with_boot (facts a) ≤ cluster.cells) × (nat_lt log_limit (log_length (next_boot (facts a) ∷ facts a)) ≡ true)
Starts (Ok (Started.NoRoom needed)) logs cluster centres up a facts = (cluster.cells < cells_with_boot (facts a)) × (needed ≡ cells_with_boot (facts a))
Starts (Err fault) logs cluster centres up a facts = ⊤

-- where the log or the node has no room
abbrev pub OnLack : Result Started Memory → Type 0 → Type 0
OnLack (Ok (Started.Node node epoch)) P = ⊤
OnLack (Ok _) P = P
OnLack (Err fault) P = ⊤

-- ---- all centres, one after another

-- each centre that has booted did so for the first time
abbrev pub first_facts : ℕ → List Fact
first_facts a = Fact.Booted 1 ∷ []

-- So many of the centres have booted for the first time, so that the tails of their logs have one frame, and the areas of the others
-- are empty.
pub record AreBegun (logs : Logs) (centres count : ℕ) : Type 0 where
  pub stand : LogsRepresent logs count (λ a. true) first_facts
  pub tails : (a : ℕ) → 1 ≤ a → a ≤ count → tail_at logs a ≡ 1
  pub there : (a : ℕ) → count < a → a ≤ centres → is_there logs.disks a ≡ true
  pub there_other : (a : ℕ) → count < a → a ≤ centres → is_there logs.disks (a + 16) ≡ true
  pub empty : (a : ℕ) → count < a → a ≤ centres → (disk_of logs.disks a).bytes ≡ []
  pub empty_other : (a : ℕ) → count < a → a ≤ centres → (disk_of logs.disks (a + 16)).bytes ≡ []
