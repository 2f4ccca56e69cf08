-- Why a replay ends early: the status of the program, and its line on the error stream.
use Rattle.std.specs.Prelude.{ℕ, List, [], ◌++◌, codes, decimal, Option, Some, None}
use Rattle.mdcc_base.specs.declared.quorums.QuorumFault.{QuorumFault}
use Rattle.mdcc_base.specs.declared.quorums.QuorumFault.TheVariants.{Centres, ClassicRange, FastRange, ClassicMeet, FastMeet}
use Rattle.mdcc_option.specs.declared.faults.DraftFault.{DraftFault}
use Rattle.mdcc_option.specs.declared.faults.DraftFault.TheVariants.{Empty, TooMany, RepeatedKey, BadAttribute, ZeroAmount, OutOfBounds}
use Rattle.mdcc_option.specs.declared.schema.SchemaFault.{SchemaFault}
use Rattle.mdcc_option.specs.declared.schema.SchemaFault.TheVariants.{Count, Bound}
use Rattle.mdcc_def_language.specs.declared.schedule.HeaderCause.{HeaderCause}
use Rattle.mdcc_def_language.specs.declared.schedule.HeaderCause.TheVariants.{Sched, Quorums, Schema}
use Rattle.mdcc_def_language.specs.declared.schedule.HeaderFault.{HeaderFault}
use Rattle.mdcc_def_language.specs.declared.schedule.SchedCause.{SchedCause}
use Rattle.mdcc_def_language.specs.declared.schedule.SchedCause.TheVariants.{Word, Number, Key, Range, Order}
use Rattle.mdcc_def_language.specs.declared.schedule.SchedFault.{SchedFault}
use Rattle.mdcc_def_language.specs.declared.world.EventFault.{EventFault}
use Rattle.mdcc_def_language.specs.declared.world.EventFault.TheVariants.{NoMessage, Down, Up, NoRead, Begin, Limit}
use Rattle.mdcc_def_language.specs.declared.world.LimitName.{LimitName}
use Rattle.mdcc_def_language.specs.declared.world.LimitName.TheVariants.{Events, Cells, Log, Bytes}

-- the input is too long, or the header is refused, or the line of a number, by its grammar or by its event
pub data ReplayFault : Type 0 where
  TooLong : ReplayFault
  AtHeader : HeaderFault → ReplayFault
  AtLine : (line : ℕ) → SchedFault → ReplayFault
  AtEvent : (line : ℕ) → EventFault → ReplayFault

-- the most bytes of an input
abbrev pub most_input : ℕ
most_input = 67108864

-- ---- statuses

abbrev pub status_at_line : SchedCause → ℕ
status_at_line SchedCause.Memory = 10
status_at_line _ = 4

abbrev pub status_at_event : EventFault → ℕ
status_at_event (Limit name value) = 11
status_at_event EventFault.Memory = 10
status_at_event _ = 4

-- 0 at the end of the input, 3 at the header, 4 at a line, 10 for want of memory, 11 at a limit
abbrev pub status_of : Option ReplayFault → ℕ
status_of None = 0
status_of (Some TooLong) = 11
status_of (Some (AtHeader fault)) = 3
status_of (Some (AtLine line fault)) = status_at_line fault.cause
status_of (Some (AtEvent line fault)) = status_at_event fault

-- ---- causes, by their names

abbrev pub cause_text : SchedCause → List ℕ
cause_text Word = codes "Word"
cause_text Number = codes "Number"
cause_text Key = codes "Key"
cause_text Range = codes "Range"
cause_text Order = codes "Order"
cause_text SchedCause.Memory = codes "Memory"

abbrev pub quorum_fault_text : QuorumFault → List ℕ
quorum_fault_text Centres = codes "Centres"
quorum_fault_text ClassicRange = codes "ClassicRange"
quorum_fault_text FastRange = codes "FastRange"
quorum_fault_text ClassicMeet = codes "ClassicMeet"
quorum_fault_text FastMeet = codes "FastMeet"

abbrev pub schema_fault_text : SchemaFault → List ℕ
schema_fault_text Count = codes "Count"
schema_fault_text (Bound n) = codes "Bound"

-- the cause within
abbrev pub header_cause_text : HeaderCause → List ℕ
header_cause_text (Sched cause) = cause_text cause
header_cause_text (Quorums fault) = quorum_fault_text fault
header_cause_text (Schema fault) = schema_fault_text fault

abbrev pub draft_fault_text : DraftFault → List ℕ
draft_fault_text Empty = codes "Empty"
draft_fault_text TooMany = codes "TooMany"
draft_fault_text RepeatedKey = codes "RepeatedKey"
draft_fault_text BadAttribute = codes "BadAttribute"
draft_fault_text ZeroAmount = codes "ZeroAmount"
draft_fault_text OutOfBounds = codes "OutOfBounds"

abbrev pub limit_text : LimitName → List ℕ
limit_text Events = codes "events"
limit_text Cells = codes "cells"
limit_text Log = codes "log"
limit_text Bytes = codes "bytes"

-- ---- lines, without their beginning and their line end

abbrev pub memory_text : List ℕ
memory_text = codes "memory"

abbrev pub at_line_text : ℕ → List ℕ
at_line_text line = codes "line " ++ decimal line

abbrev pub sched_fault_text : ℕ → ℕ → SchedCause → List ℕ
sched_fault_text line column SchedCause.Memory = memory_text
sched_fault_text line column cause = at_line_text line ++ codes " column " ++ decimal column ++ codes ": " ++ cause_text cause

-- a cause with the value that it carries
abbrev pub event_fault_text : ℕ → EventFault → List ℕ
event_fault_text line (NoMessage number) = at_line_text line ++ codes ": NoMessage " ++ decimal number
event_fault_text line (Down centre) = at_line_text line ++ codes ": Down " ++ decimal centre
event_fault_text line (Up centre) = at_line_text line ++ codes ": Up " ++ decimal centre
event_fault_text line (NoRead number) = at_line_text line ++ codes ": NoRead " ++ decimal number
event_fault_text line (Begin fault) = at_line_text line ++ codes ": Begin " ++ draft_fault_text fault
event_fault_text line (Limit name value) = codes "limit " ++ limit_text name ++ codes " " ++ decimal value
event_fault_text line EventFault.Memory = memory_text

abbrev pub fault_text : ReplayFault → List ℕ
fault_text TooLong = codes "limit input " ++ decimal most_input
fault_text (AtHeader fault) = codes "header " ++ at_line_text fault.line ++ codes ": " ++ header_cause_text fault.cause
fault_text (AtLine line fault) = sched_fault_text line fault.column fault.cause
fault_text (AtEvent line fault) = event_fault_text line fault

-- what the program writes on the error stream
abbrev pub error_line : List ℕ → List ℕ
error_line text = codes "mdcc: " ++ text ++ codes "\n"

-- one line, or nothing at the end of the input
abbrev pub error_text : Option ReplayFault → List ℕ
error_text None = []
error_text (Some fault) = error_line (fault_text fault)
