-- The limits of a replay, and an input of a centre within them.
use Rattle.std.specs.Option.{option_or}
use Rattle.std.specs.Prelude.{Bool, Err, List, None, Ok, Option, Result, Some, false, if◌then◌else◌, is_some, nat_le, nat_lt, true, ℕ, ◌&&◌, ◌+◌, ◌^◌, ◌∷◌}
use Rattle.mdcc_def_rules.specs.Boot.{is_past_cells}
use Rattle.mdcc_def_ledger.specs.Ledger.{facts_of}
use Rattle.mdcc_def_messages.specs.Lengths.{cells_needed, log_length, messages_length}
use Rattle.mdcc_def_protocol.specs.Cells.{cells_held}
use Rattle.mdcc_def_rules.specs.Steps.{NodeStep}
use Rattle.mdcc_def_messages.specs.declared.facts.Fact.{Fact}
use Rattle.mdcc_def_language.specs.declared.lines.Line.{Line}
use Rattle.mdcc_def_messages.specs.declared.messages.Envelope.{Envelope}
use Rattle.mdcc_def_rules.specs.declared.node.Input.{Input}
use Rattle.mdcc_def_rules.specs.declared.node.StepFault.{StepFault}
use Rattle.mdcc_def_language.specs.declared.world.EventFault.{EventFault}
use Rattle.mdcc_def_language.specs.declared.world.LimitName.{LimitName}
use Rattle.mdcc_def_simulation.specs.State.{World, is_up_at, Happened, after_lines}
use Rattle.mdcc_def_simulation.specs.Checkpoints.{striking_at}
use Rattle.mdcc_def_simulation.specs.AppliedSteps.{input_happened, step_at}

-- how many events a replay has at most, how many bytes of messages, and how many bytes a log
abbrev pub most_events : ℕ
most_events = 100000

abbrev pub most_bytes : ℕ
most_bytes = 536870912

abbrev pub most_log : ℕ
most_log = 2 ^ 30

abbrev pub limit_if : Bool → LimitName → ℕ → Option EventFault
limit_if is_passed name number = if is_passed then Some (EventFault.Limit name number) else None

-- one fact more in the log of a centre would pass its limit
abbrev pub passed_log_limit : World → ℕ → Fact → Option EventFault
passed_log_limit w a fact =
    limit_if (nat_lt most_log (log_length (fact ∷ facts_of w.ledger a))) LimitName.Log most_log

-- these messages would pass the limit of bytes
abbrev pub passed_bytes_limit : World → List Envelope → Option EventFault
passed_bytes_limit w sends =
    limit_if (nat_lt most_bytes (w.bytes + messages_length sends)) LimitName.Bytes most_bytes

-- the limit that a step would pass; one whose append stops sends nothing
abbrev pub step_limit_by : World → ℕ → NodeStep → Option Fact → Option EventFault
step_limit_by w a step None = passed_bytes_limit w step.sends
step_limit_by w a step (Some fact) =
    option_or (passed_log_limit w a fact) (if is_some (striking_at w a) then None else passed_bytes_limit w step.sends)

abbrev pub step_limit : World → ℕ → Result NodeStep StepFault → Option EventFault
step_limit w a (Ok step) = step_limit_by w a step step.fact
step_limit w a (Err fault) = None

-- one boot more at a centre would pass the cells of its node: the number that is needed
abbrev pub passed_cells_limit : World → ℕ → Fact → Option EventFault
passed_cells_limit w a fact =
    let facts = facts_of w.ledger a in
    limit_if (is_past_cells w.cluster facts fact) LimitName.Cells (cells_held facts + cells_needed fact)

-- what happens where no limit is passed
abbrev pub unless_limit : {X : Type 0} → Option EventFault → X → Result X EventFault
unless_limit (Some fault) x = Err fault
unless_limit None x = Ok x

abbrev pub is_limit : EventFault → Bool
is_limit (EventFault.Limit name number) = true
is_limit _ = false

-- one event more would pass the limit of events
abbrev pub is_past_events : World → Bool
is_past_events w = nat_le most_events w.events

-- the limit of events is asked behind all other refusals, and before the other limits
abbrev pub within_events : {X : Type 0} → World → Result X EventFault → Result X EventFault
within_events w (Ok x) = unless_limit (limit_if (is_past_events w) LimitName.Events most_events) x
within_events w (Err fault) =
    if is_limit fault && is_past_events w then Err (EventFault.Limit LimitName.Events most_events) else Err fault

-- only at a centre that is up
abbrev pub if_up : {X : Type 0} → World → ℕ → Result X EventFault → Result X EventFault
if_up w a result = if is_up_at w a then result else Err (EventFault.Down a)

-- an input of a centre, within the limits
abbrev pub input_limited : World → ℕ → Result NodeStep StepFault → Result Happened EventFault
input_limited w a result = unless_limit (step_limit w a result) (input_happened w a result)

abbrev pub input_applied : World → ℕ → Input → Result Happened EventFault
input_applied w a input = input_limited w a (step_at w a input)

-- the lines of what happened stand behind others that it determines
abbrev pub with_lines : (World → List Line) → Result Happened EventFault → Result Happened EventFault
with_lines lines (Ok h) = Ok (after_lines (lines h.world) h)
with_lines lines (Err fault) = Err fault

-- a refusal that may come at any time
abbrev pub is_out_of_memory : EventFault → Bool
is_out_of_memory EventFault.Memory = true
is_out_of_memory _ = false
