-- What the command that audits logs does.
use Rattle.std.specs.Io.KnownBytes.{Appends}
use Rattle.std.specs.List.{list_any}
use Rattle.std.specs.Prelude.{Bool, Err, IfErr, IfSome, List, Ok, Option, Result, Some, [], ℕ, ◌+◌, ◌-◌, ◌<◌, ◌==◌, ◌^◌, ◌∷◌, ◌≡◌, ◌⊎◌}
use Rattle.mdcc_audit.specs.Logs.{audit_of}
use Rattle.mdcc_audit.specs.declared.audited.AuditCause.{AuditCause}
use Rattle.mdcc_audit.specs.declared.audited.AuditFault.{AuditFault}
use Rattle.mdcc_audit.specs.declared.audited.Place.{Place}
use Rattle.mdcc_audit.specs.declared.audited.Verdict3.{Verdict3}
use Rattle.mdcc_command_audit.specs.Audits.{AreTold, GivesVerdicts, IsCentreUpTo, IsElsewhere, IsPrintFailure, SaysAt, UnlessDisk, logs_on, some_calls}
use Rattle.mdcc_command_audit.specs.Texts.{audit_text, contradiction_text}
use Rattle.mdcc_command_audit.specs.declared.found.Found.{Found}
use Rattle.mdcc_node_log.specs.Logged.{AreLogged}
use Rattle.mdcc_node_log.specs.Opening.{OnlyOpens}
use Rattle.mdcc_config.specs.declared.config.Config.{Config}
use Rattle.mdcc_disks.specs.Disks.{Disk}
use Rattle.mdcc_command_dump.specs.Commands.{UntouchedDisks}
use Rattle.mdcc_command_endings.specs.Endings.{EndsWithStatus}
use Rattle.mdcc_command_endings.specs.Logs.{AreAreasTold, EndsByLogs, LogRefusal, SaysLogs, node_booted_at}
use Rattle.mdcc_command_endings.specs.Readings.{GivesConfig, IsConfigRead}
use Rattle.mdcc_command_endings.specs.declared.fault.Failure.{Failure}
use Rattle.mdcc_def_language.specs.Errors.{error_line}
use Rattle.mdcc_log_file.specs.Area.{payloads}
use Rattle.mdcc_def_messages.specs.Spelling.{encodings_of}
use Rattle.mdcc_def_messages.specs.declared.facts.Fact.{Fact}
use Rattle.mdcc_option.specs.declared.cluster.Cluster.{Cluster}
use Rattle.mdcc_def_protocol.specs.Facts.{epoch_of}
use Rattle.mdcc_command_replay.specs.Runs.{own_line}
use Rattle.mdcc_command_replay.specs.Writing.{Tells}
use Rattle.mdcc_def_rules.specs.declared.node.BootFault.{BootFault}
use Rattle.mdcc_struct.specs.Maps.{TxMap}

-- ---- how it ends

-- two facts contradict each other: status 13 with both, or 10 where memory lacked for the line
abbrev pub EndsContradicted : AuditCause → Place → Place → ℕ → Option (List ℕ) → Option (List ℕ) → ℕ → ℕ → Type 0
EndsContradicted cause a b status before after faults_before faults_after =
    ((status ≡ 13) × Tells before after faults_before faults_after (error_line (contradiction_text cause a b)))
    ⊎ ((status ≡ 10) × Tells before after faults_before faults_after (own_line 10))

-- otherwise as other commands over a configuration do
abbrev pub AuditEnds : Result Found Failure → ℕ → Option (List ℕ) → Option (List ℕ) → ℕ → ℕ → Type 0
AuditEnds (Ok (Found.Contradiction cause a b)) status before after faults_before faults_after = EndsContradicted cause a b status before after faults_before faults_after
AuditEnds (Ok Found.Verdicts) status before after faults_before faults_after =
    EndsWithStatus (let done : Result Found Failure = Ok Found.Verdicts in done) status before after faults_before faults_after
AuditEnds (Err failure) status before after faults_before faults_after =
    EndsWithStatus (let done : Result Found Failure = Err failure in done) status before after faults_before faults_after

-- the statuses that there are
abbrev pub is_audit_status : ℕ → Bool
is_audit_status status = list_any (λ s. s == status) (0 ∷ 3 ∷ 5 ∷ 6 ∷ 7 ∷ 8 ∷ 9 ∷ 10 ∷ 11 ∷ 12 ∷ 13 ∷ [])

-- ---- what it does

module _ {D O : Type 0} (disk : D → ℕ → Disk) (may_leave : D → ℕ → List ℕ → Type 0) (moment : D → ℕ) (left_since : D → ℕ → ℕ → List ℕ → Type 0) (tears : ℕ → Type 0) (held : O → Option (List ℕ)) (disks_old disks_new : D) (out_old out_new : O) where
  -- The logs of all centres were opened in their order, up to the first one that is refused, and audited.
  pub record AuditsLogs (config : Config) (found : Result Found Failure) : Type 0 where
    -- where both areas of each centre tell their bytes
    pub logs : AreTold disk disks_old config.cluster.quorums.centres → SaysLogs (node_booted_at disk config.cluster disks_old) 1 config.cluster.quorums.centres found
    pub answers : AreTold disk disks_old config.cluster.quorums.centres
        → GivesVerdicts (audit_of config.cluster.quorums (logs_on disk disks_old config.cluster)) found (held out_old) (held out_new)
    -- it fails by what opening or printing fails by
    pub fails : IfErr found (λ failure. IsPrintFailure failure ⊎ ((a : ℕ) × SaysAt disk config.cluster disks_old a failure))
    -- nothing was appended: at the disks of each centre calls of an opening were made and no others, and the same payloads are read again
    pub opens : (a : ℕ) → IsCentreUpTo config.cluster.quorums.centres a → OnlyOpens disk may_leave moment left_since tears disks_old disks_new a found
    pub keeps : (a : ℕ) (all : List (List ℕ)) → IsCentreUpTo config.cluster.quorums.centres a → AreAreasTold disk disks_old a
        → payloads (disk disks_old a).bytes (disk disks_old (a + 16)).bytes ≡ Ok all
        → UnlessDisk found (payloads (disk disks_new a).bytes (disk disks_new (a + 16)).bytes ≡ Ok all)
    -- and other disks are as they were
    pub others : (p : ℕ) → IsElsewhere config.cluster.quorums.centres p → disk disks_new p ≡ disk disks_old p

  -- by what the input was read as
  abbrev pub Audits : Result Config Failure → Result Found Failure → Type 0
  Audits (Ok config) found = AuditsLogs config found
  Audits (Err failure) found = (found ≡ Err failure) × UntouchedDisks disks_old disks_new out_old out_new

  pub record RunsAudit (input : List ℕ) (found : Result Found Failure) : Type 0 where
    pub read : Result Config Failure
    pub gives : GivesConfig input read
    pub audits : Audits read found

  -- The command ended as its audit did. Whatever the input is, at the disks of each centre a front of the calls of an opening was made
  -- and no others, with what a crash meanwhile leaves, and disks of no centre are as they were.
  pub record DoesAudit (left : Option (List ℕ)) (status : ℕ) (err_before err_after : Option (List ℕ)) (faults_before faults_after : ℕ) : Type 0 where
    pub found : Result Found Failure
    pub ends : AuditEnds found status err_before err_after faults_before faults_after
    pub runs : IfSome left (λ input. RunsAudit input found)
    pub opens : (a : ℕ) → IsCentreUpTo 9 a → OnlyOpens disk may_leave moment left_since tears disks_old disks_new a some_calls
    pub others : (p : ℕ) → IsElsewhere 9 p → disk disks_new p ≡ disk disks_old p

-- ---- over an accepted configuration, whose disks tell their bytes

-- the status by the logs
abbrev pub AuditEndsByLogs : {D : Type 0} → (D → ℕ → Disk) → D → Option (List ℕ) → ℕ → Type 0
AuditEndsByLogs disk disks left status =
    (input : List ℕ) (config : Config) → left ≡ Some input → IsConfigRead input (Ok config) → AreTold disk disks config.cluster.quorums.centres
    → EndsByLogs (node_booted_at disk config.cluster disks) 1 config.cluster.quorums.centres status

-- ---- where nothing failed

-- In the areas of this centre is a log that its node may have written, with an epoch below the last.
pub record IsNodeLog {D : Type 0} (disk : D → ℕ → Disk) (disks : D) (cluster : Cluster) (a : ℕ) : Type 0 where
  pub facts : List Fact
  pub read : payloads (disk disks a).bytes (disk disks (a + 16)).bytes ≡ Ok (encodings_of facts)
  pub logged : AreLogged cluster facts
  pub below : epoch_of facts < 2 ^ 32 - 1

-- all verdicts were printed, at status 0, or two facts contradict each other, at status 13
abbrev pub Concludes : Result (TxMap Verdict3) AuditFault → ℕ → Option (List ℕ) → Option (List ℕ) → Type 0
Concludes expected status before after =
    ((verdicts : TxMap Verdict3) × (expected ≡ Ok verdicts) × (status ≡ 0) × Appends before after (audit_text verdicts))
    ⊎ ((cause : AuditCause) × (a : Place) × (b : Place) × (expected ≡ Err (AuditFault.Contradiction cause a b)) × (status ≡ 13) × Appends before after [])

-- the node of a centre has too few cells for its log
abbrev pub LacksCells : {D : Type 0} → (D → ℕ → Disk) → D → Cluster → Type 0
LacksCells disk disks cluster =
    (a : ℕ) × (needed : ℕ) × (cells : ℕ) × IsCentreUpTo cluster.quorums.centres a × (node_booted_at disk cluster disks a ≡ Err (LogRefusal.NoNode (BootFault.Room needed cells)))

-- Over logs that nodes may have written the audit concludes, unless memory or cells lack.
abbrev pub AuditCompletes : {D O : Type 0} → (D → ℕ → Disk) → (O → Option (List ℕ)) → D → O → O → Option (List ℕ) → ℕ → Type 0
AuditCompletes disk held disks out_old out_new left status =
    (input : List ℕ) (config : Config) → left ≡ Some input → IsConfigRead input (Ok config) → AreTold disk disks config.cluster.quorums.centres
    → ((a : ℕ) → IsCentreUpTo config.cluster.quorums.centres a → IsNodeLog disk disks config.cluster a)
    → Concludes (audit_of config.cluster.quorums (logs_on disk disks config.cluster)) status (held out_old) (held out_new)
    ⊎ ((status ≡ 10) ⊎ ((status ≡ 11) × LacksCells disk disks config.cluster))
