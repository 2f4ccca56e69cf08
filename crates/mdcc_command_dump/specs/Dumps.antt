-- What is printed of a log.
use Rattle.std.specs.Io.KnownBytes.{Appends}
use Rattle.std.specs.Prelude.{Err, IsErrAnd, List, None, Ok, Option, Result, Some, [], ⊤, ℕ, ◌+◌, ◌++◌, ◌∷◌, ◌⊎◌}
use Rattle.mdcc_node_boot.specs.Loading.{fact_read}
use Rattle.mdcc_log_file.specs.declared.fault.LogFault.{LogFault}
use Rattle.mdcc_disks.specs.Disks.{Disk}
use Rattle.mdcc_command_dump.specs.Texts.{dumped_fact_lines}
use Rattle.mdcc_command_dump.specs.declared.fault.DumpFault.{DumpFault}
use Rattle.mdcc_def_messages.specs.declared.facts.Fact.{Fact}
use Rattle.mdcc_option.specs.declared.cluster.Cluster.{Cluster}
use Rattle.mdcc_command_replay.specs.Writing.{Front}
use Rattle.mdcc_command_replay.specs.declared.writing.Failure.{Failure}
use Rattle.mdcc_node_log.specs.Opening.{GivesNone, HasBooted, IsOpeningFault}
use Rattle.mdcc_node_log.specs.Starting.{IsUnread}
use Rattle.mdcc_node_log.specs.declared.fault.StartFault.{StartFault}

-- ---- what is printed

-- the lines of the fact of this number that a payload is
abbrev pub read_lines : ℕ → Option Fact → List ℕ
read_lines number (Some fact) = dumped_fact_lines number fact
read_lines number None = []

abbrev pub payload_lines : ℕ → List ℕ → List ℕ
payload_lines number payload = read_lines number (fact_read payload)

-- those of payloads, from this number on
abbrev pub payloads_lines : ℕ → List (List ℕ) → List ℕ
payloads_lines number [] = []
payloads_lines number (payload ∷ payloads) = payload_lines number payload ++ payloads_lines (number + 1) payloads

-- all of a log: its facts are counted from 1
abbrev pub dump_text : List (List ℕ) → List ℕ
dump_text payloads = payloads_lines 1 payloads

-- ---- a dump

-- why a log gave no node
abbrev pub of_restart : StartFault → DumpFault
of_restart StartFault.Memory = DumpFault.Memory
of_restart fault = DumpFault.Log fault

-- why a text was not written
abbrev pub of_writing : Failure → DumpFault
of_writing Failure.Output = DumpFault.Output
of_writing Failure.Memory = DumpFault.Memory

-- the faults of printing
abbrev pub IsPrintFault : DumpFault → Type 0
IsPrintFault (DumpFault.Log fault) = ⊥
IsPrintFault fault = ⊤

-- The lines of all facts were printed, where a node boots from them, or a prefix of these lines, where the output or memory failed.
-- Where there is no node nothing is printed.
abbrev pub IsDumped : Cluster → List (List ℕ) → Result (Unit {0}) DumpFault → Option (List ℕ) → Option (List ℕ) → Type 0
IsDumped cluster payloads (Ok done) before after = HasBooted cluster payloads × Appends before after (dump_text payloads)
IsDumped cluster payloads (Err (DumpFault.Log fault)) before after = GivesNone cluster payloads fault × Appends before after []
IsDumped cluster payloads (Err DumpFault.Output) before after = HasBooted cluster payloads × Front before after (dump_text payloads)
IsDumped cluster payloads (Err DumpFault.Memory) before after = Appends before after [] ⊎ (HasBooted cluster payloads × Front before after (dump_text payloads))

-- why nothing was printed of areas that give no log, for what stands at this offset
abbrev pub IsUndumped : {D : Type 0} → ℕ → DumpFault → ℕ → (D → ℕ → Disk) → D → D → Type 0
IsUndumped n (DumpFault.Log fault) me disk old new = IsUnread n fault me disk old new
IsUndumped n DumpFault.Memory me disk old new = IsUnread n StartFault.Memory me disk old new
IsUndumped n DumpFault.Output me disk old new = ⊥

-- Such areas are refused, and nothing is printed.
pub record IsUnopened {D : Type 0} (n me : ℕ) (disk : D → ℕ → Disk) (old new : D) (result : Result (Unit {0}) DumpFault) (before after : Option (List ℕ)) : Type 0 where
  pub fault : IsErrAnd result (λ fault. IsUndumped n fault me disk old new)
  pub output : Appends before after []

-- the faults that may come, and that nothing was printed where the log gave no node
abbrev pub MayFail : Option (List ℕ) → Option (List ℕ) → DumpFault → Type 0
MayFail before after (DumpFault.Log StartFault.Memory) = ⊥
MayFail before after (DumpFault.Log fault) = IsOpeningFault fault × Appends before after []
MayFail before after fault = ⊤

-- something is kept unless a disk failed
abbrev pub KeepsUnlessDiskFault : {T : Type 0} → Result T DumpFault → Type 0 → Type 0
KeepsUnlessDiskFault (Err (DumpFault.Log (StartFault.Log LogFault.DiskFault))) kept = ⊤
KeepsUnlessDiskFault result kept = kept
