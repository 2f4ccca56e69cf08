-- From which logs a node boots, and what a command that opens logs says of those from which none does.
use Rattle.std.specs.Prelude.{Err, IfErr, IsErrAnd, IsTrue, List, Ok, Result, is_ok, ⊤, ℕ, ◌<◌, ◌≡◌, ◌≤◌, ◌⊎◌, ◌+◌}
use Rattle.mdcc_node_log.specs.Nodes.{facts_at_boot}
use Rattle.mdcc_log_file.specs.Area.{payloads}
use Rattle.mdcc_log_file.specs.declared.fault.LogFault.{LogFault}
use Rattle.mdcc_command_endings.specs.Endings.{failure_status}
use Rattle.mdcc_command_endings.specs.declared.fault.Failure.{Failure}
use Rattle.mdcc_disks.specs.Disks.{Disk}
use Rattle.mdcc_def_messages.specs.declared.facts.Fact.{Fact}
use Rattle.mdcc_option.specs.declared.cluster.Cluster.{Cluster}
use Rattle.mdcc_def_rules.specs.declared.node.BootFault.{BootFault}

-- ---- the node of a log

-- why no node boots: what stands at this offset of an area is no log, or the payloads give none
pub data LogRefusal : Type 0 where
  NotALog : (offset : ℕ) → LogRefusal
  NoNode : (why : BootFault) → LogRefusal

abbrev pub node_of : Result (List Fact) BootFault → Result (List Fact) LogRefusal
node_of (Ok facts) = Ok facts
node_of (Err why) = Err (LogRefusal.NoNode why)

abbrev pub node_from : Cluster → Result (List (List ℕ)) ℕ → Result (List Fact) LogRefusal
node_from cluster (Ok payloads) = node_of (facts_at_boot cluster payloads)
node_from cluster (Err offset) = Err (LogRefusal.NotALog offset)

-- the facts of the node that boots from the log in the two areas of this centre, or why there is none
abbrev pub node_booted_at : {D : Type 0} → (D → ℕ → Disk) → Cluster → D → ℕ → Result (List Fact) LogRefusal
node_booted_at disk cluster disks a = node_from cluster (payloads (disk disks a).bytes (disk disks (a + 16)).bytes)

-- both areas of this centre tell their bytes
pub record AreAreasTold {D : Type 0} (disk : D → ℕ → Disk) (disks : D) (a : ℕ) : Type 0 where
  pub first : IsTrue (disk disks a).told
  pub second : IsTrue (disk disks (a + 16)).told

-- ---- the first log that is refused

-- From the logs of the centres before this one nodes boot, and from its own none does, for this reason.
pub record IsFirstRefused (node : ℕ → Result (List Fact) LogRefusal) (first last a : ℕ) (why : LogRefusal) : Type 0 where
  pub from : first ≤ a
  pub to : a ≤ last
  pub before : (b : ℕ) → first ≤ b → b < a → IsTrue (is_ok (node b))
  pub is : node a ≡ Err why

abbrev pub refusal_failure : ℕ → LogRefusal → Failure
refusal_failure a (LogRefusal.NotALog offset) = Failure.Log a (LogFault.NotALog offset)
refusal_failure a (LogRefusal.NoNode why) = Failure.Boot a why

-- a failure that says that a log is refused says the first one
abbrev pub SaysRefused : (ℕ → Result (List Fact) LogRefusal) → ℕ → ℕ → Failure → Type 0
SaysRefused node first last (Failure.Log a (LogFault.NotALog offset)) = IsFirstRefused node first last a (LogRefusal.NotALog offset)
SaysRefused node first last (Failure.Boot a why) = IsFirstRefused node first last a (LogRefusal.NoNode why)
SaysRefused node first last failure = ⊤

-- what may come before the log of this centre is refused: a call of its disks or of those of a centre before fails, the log of one
-- before has no room for its boot, or there is no memory
abbrev pub ComesBefore : ℕ → ℕ → Failure → Type 0
ComesBefore first a (Failure.Log b LogFault.DiskFault) = (first ≤ b) × (b ≤ a)
ComesBefore first a (Failure.Log b LogFault.LogFull) = (first ≤ b) × (b < a)
ComesBefore first a Failure.Memory = ⊤
ComesBefore first a failure = ⊥

-- A command that opens the logs of the centres from one number to another ends with the first one that is refused, and with no
-- other, unless something else comes before.
pub record SaysLogs {T : Type 0} (node : ℕ → Result (List Fact) LogRefusal) (first last : ℕ) (done : Result T Failure) : Type 0 where
  pub says : IfErr done (SaysRefused node first last)
  pub refused : (a : ℕ) (why : LogRefusal) → IsFirstRefused node first last a why → IsErrAnd done (λ failure. (failure ≡ refusal_failure a why) ⊎ ComesBefore first a failure)

-- The same by the status. Statuses 9 and 12 come only so; where a log is refused the status is that of the refusal, or it is 5, 7, 10
-- or, of several logs, 11, where something else came before.
pub record EndsByLogs (node : ℕ → Result (List Fact) LogRefusal) (first last status : ℕ) : Type 0 where
  pub none : status ≡ 9 → (a : ℕ) × (why : LogRefusal) × IsFirstRefused node first last a why × (failure_status (refusal_failure a why) ≡ 9)
  pub epochs : status ≡ 12 → (a : ℕ) × IsFirstRefused node first last a (LogRefusal.NoNode BootFault.Epochs)
  pub refused : (a : ℕ) (why : LogRefusal) → IsFirstRefused node first last a why
      → (status ≡ failure_status (refusal_failure a why)) ⊎ ((status ≡ 5) ⊎ ((status ≡ 7) ⊎ ((status ≡ 10) ⊎ ((status ≡ 11) × (first < a)))))
