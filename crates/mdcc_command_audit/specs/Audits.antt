-- What opening and auditing the logs of all centres comes to.
use Rattle.std.specs.Io.KnownBytes.{Appends}
use Rattle.std.specs.Prelude.{Err, IsTrue, List, Ok, Option, Result, [], filter_map, is_ok, map, ⊤, ℕ, ◌+◌, ◌≡◌, ◌≢◌, ◌≤◌, ◌⊎◌}
use Rattle.mdcc_node_boot.specs.Loading.{fact_read}
use Rattle.mdcc_audit.specs.declared.audited.AuditFault.{AuditFault}
use Rattle.mdcc_audit.specs.declared.audited.Verdict3.{Verdict3}
use Rattle.mdcc_command_audit.specs.Texts.{audit_text}
use Rattle.mdcc_command_audit.specs.declared.found.Found.{Found}
use Rattle.mdcc_base.specs.Quorums.{all_centres}
use Rattle.mdcc_node_log.specs.declared.fault.StartFault.{StartFault}
use Rattle.mdcc_disks.specs.Disks.{Disk, Within}
use Rattle.mdcc_command_endings.specs.Logs.{AreAreasTold, LogRefusal, node_booted_at}
use Rattle.mdcc_command_endings.specs.declared.fault.Failure.{Failure}
use Rattle.mdcc_log_file.specs.Area.{payloads}
use Rattle.mdcc_log_file.specs.declared.fault.LogFault.{LogFault}
use Rattle.mdcc_def_messages.specs.declared.facts.Fact.{Fact}
use Rattle.mdcc_option.specs.declared.cluster.Cluster.{Cluster}
use Rattle.mdcc_command_replay.specs.Writing.{Front}
use Rattle.mdcc_def_rules.specs.declared.node.BootFault.{BootFault}
use Rattle.mdcc_struct.specs.Maps.{TxMap}

-- ---- the facts of logs

-- those that payloads spell: where a node boots from payloads, each of them is one
abbrev pub facts_in : List (List ℕ) → List Fact
facts_in payloads = filter_map fact_read payloads

abbrev pub facts_from : Result (List (List ℕ)) ℕ → List Fact
facts_from (Ok payloads) = facts_in payloads
facts_from (Err offset) = []

-- the log in the two areas of a centre, with the oldest fact first
abbrev pub log_on : {D : Type 0} → (D → ℕ → Disk) → D → ℕ → List Fact
log_on disk disks a = facts_from (payloads (disk disks a).bytes (disk disks (a + 16)).bytes)

-- the logs of all centres
abbrev pub logs_on : {D : Type 0} → (D → ℕ → Disk) → D → Cluster → List (List Fact)
logs_on disk disks cluster = map (log_on disk disks) (all_centres cluster.quorums)

-- ---- which disks they are on

-- one of the centres up to this number
abbrev pub IsCentreUpTo : ℕ → ℕ → Type 0
IsCentreUpTo last a = (1 ≤ a) × (a ≤ last)

-- no disk of any of them
abbrev pub IsElsewhere : ℕ → ℕ → Type 0
IsElsewhere last p = (a : ℕ) → IsCentreUpTo last a → (p ≢ a) × (p ≢ a + 16)

-- both areas of each of them tell their bytes
abbrev pub AreTold : {D : Type 0} → (D → ℕ → Disk) → D → ℕ → Type 0
AreTold disk disks last = (a : ℕ) → IsCentreUpTo last a → AreAreasTold disk disks a

-- ---- one log

-- why a log was not opened, as a command has it
abbrev pub of_start : ℕ → StartFault → Failure
of_start centre (StartFault.Log fault) = Failure.Log centre fault
of_start centre (StartFault.Boot fault) = Failure.Boot centre fault
of_start centre StartFault.Memory = Failure.Memory

module _ {D : Type 0} (disk : D → ℕ → Disk) (cluster : Cluster) (disks : D) where
  -- where it is known what stands there, a node boots from the log of this centre
  abbrev pub BootsAt : ℕ → Type 0
  BootsAt a = AreAreasTold disk disks a → IsTrue (is_ok (node_booted_at disk cluster disks a))

  -- where it is known what stands there, none boots, for this reason
  abbrev pub IsRefusedAt : ℕ → LogRefusal → Type 0
  IsRefusedAt a why = AreAreasTold disk disks a → node_booted_at disk cluster disks a ≡ Err why

  -- what a failure at the log of this centre says of it: a call of its disks failed, or it is refused; memory may lack at any time
  abbrev pub SaysAt : ℕ → Failure → Type 0
  SaysAt a (Failure.Log b LogFault.DiskFault) = b ≡ a
  SaysAt a (Failure.Log b (LogFault.NotALog offset)) = (b ≡ a) × IsRefusedAt a (LogRefusal.NotALog offset)
  SaysAt a (Failure.Boot b BootFault.Memory) = ⊥
  SaysAt a (Failure.Boot b why) = (b ≡ a) × IsRefusedAt a (LogRefusal.NoNode why)
  SaysAt a Failure.Memory = ⊤
  SaysAt a failure = ⊥

module _ {D : Type 0} (disk : D → ℕ → Disk) (may_leave : D → ℕ → List ℕ → Type 0) (moment : D → ℕ) (left_since : D → ℕ → ℕ → List ℕ → Type 0) where
  -- these disks are as they were, and so is what a crash leaves there
  pub record KeepsDisks (Which : ℕ → Type 0) (old new : D) : Type 0 where
    pub disks : (p : ℕ) → Which p → disk new p ≡ disk old p
    pub crash : (p : ℕ) → Which p → Within (may_leave old p) (may_leave new p)
    pub later : moment old ≤ moment new
    pub time : (p t : ℕ) (c : List ℕ) → Which p → t ≤ moment old → left_since new p t c → left_since old p t c ⊎ may_leave old p c

-- something stands unless a call of a disk failed
abbrev pub UnlessDisk : {T : Type 0} → Result T Failure → Type 0 → Type 0
UnlessDisk (Err (Failure.Log a LogFault.DiskFault)) P = ⊤
UnlessDisk result P = P

-- a front of the calls of an opening, whatever came of it
abbrev pub some_calls : Result (Unit {0}) (Unit {0})
some_calls = Err tt

-- ---- what is printed

-- the faults of printing
abbrev pub IsPrintFailure : Failure → Type 0
IsPrintFailure Failure.Output = ⊤
IsPrintFailure Failure.Memory = ⊤
IsPrintFailure failure = ⊥

-- The audit's answer to the logs: its verdicts, all of their text or a prefix of it where the output failed, or which two facts
-- contradict each other; then nothing is printed, and so it is where it failed otherwise.
abbrev pub GivesVerdicts : Result (TxMap Verdict3) AuditFault → Result Found Failure → Option (List ℕ) → Option (List ℕ) → Type 0
GivesVerdicts expected (Ok Found.Verdicts) before after = (verdicts : TxMap Verdict3) × (expected ≡ Ok verdicts) × Appends before after (audit_text verdicts)
GivesVerdicts expected (Ok (Found.Contradiction cause a b)) before after = (expected ≡ Err (AuditFault.Contradiction cause a b)) × Appends before after []
GivesVerdicts expected (Err Failure.Output) before after = (verdicts : TxMap Verdict3) × (expected ≡ Ok verdicts) × Front before after (audit_text verdicts)
GivesVerdicts expected (Err failure) before after = Appends before after []
