-- What clients do: reads and begins.
use Rattle.std.specs.Prelude.{Err, List, None, Ok, Option, Result, Some, [], length, map, ℕ, ◌++◌, ◌+◌, ◌∷◌}
use Rattle.mdcc_base.specs.declared.key.Key.{Key}
use Rattle.mdcc_option.specs.Transaction.{transaction_of}
use Rattle.mdcc_option.specs.declared.faults.BeginFault.{BeginFault}
use Rattle.mdcc_option.specs.declared.faults.DraftFault.{DraftFault}
use Rattle.mdcc_option.specs.declared.items.Known.{Known}
use Rattle.mdcc_option.specs.declared.items.Part.{Part}
use Rattle.mdcc_def_language.specs.Resolve.{resolve}
use Rattle.mdcc_def_ledger.specs.Ledger.{facts_of}
use Rattle.mdcc_def_rules.specs.Steps.{NodeStep}
use Rattle.mdcc_def_protocol.specs.Visible
use Rattle.mdcc_def_language.specs.declared.events.UpdateWord.{UpdateWord}
use Rattle.mdcc_def_language.specs.declared.lines.Line.{Line}
use Rattle.mdcc_def_rules.specs.declared.node.Answer.{Answer}
use Rattle.mdcc_def_rules.specs.declared.node.Input.{Input}
use Rattle.mdcc_def_rules.specs.declared.node.StepFault.{StepFault}
use Rattle.mdcc_def_language.specs.declared.schedule.ResolveFault.{ResolveFault}
use Rattle.mdcc_def_protocol.specs.declared.visible.Reading.{Reading}
use Rattle.mdcc_def_language.specs.declared.world.EventFault.{EventFault}
use Rattle.mdcc_def_simulation.specs.State.{World, next_message, Happened}
use Rattle.mdcc_def_simulation.specs.AppliedSteps.{step_at}
use Rattle.mdcc_def_simulation.specs.Limits.{input_limited, with_lines}

abbrev pub known_of_reading : Key → Reading → Known
known_of_reading key reading = record { key = key; token = reading.token; item = reading.item }

-- a read line
abbrev pub read_happened : World → ℕ → Key → Happened
read_happened w a key =
    let known = known_of_reading key (Visible.read (facts_of w.ledger a) key) in
    record {
      world = record w { reads = w.reads ++ known ∷ [] };
      lines = Line.Read (length w.reads + 1) a known ∷ [];
    }

-- the line of a begin
abbrev pub begin_lines : Option Answer → World → List Line
begin_lines (Some (Answer.Begun tx)) w = Line.Begun tx (next_message w) ∷ []
begin_lines (Some (Answer.Refused key fault)) w = Line.Refused key fault ∷ []
begin_lines _ w = []

abbrev pub answer_of_step : Result NodeStep StepFault → Option Answer
answer_of_step (Ok step) = step.answer
answer_of_step (Err fault) = None

abbrev pub after_begin_step : World → ℕ → Result NodeStep StepFault → Result Happened EventFault
after_begin_step w a result = with_lines (begin_lines (answer_of_step result)) (input_limited w a result)

-- by the parts in key order, or why they make no transaction
abbrev pub begun_by : World → ℕ → Result (List Part) DraftFault → Result Happened EventFault
begun_by w a (Err fault) = Err (EventFault.Begin fault)
begun_by w a (Ok parts) = after_begin_step w a (step_at w a (Input.Begin parts))

-- a read without an item is told in a line of its own
abbrev pub refused_without_item : World → Key → Happened
refused_without_item w key = record { world = w; lines = Line.Refused key BeginFault.NoItem ∷ [] }

abbrev pub parts_begun : World → ℕ → Result (List Part) ResolveFault → Result Happened EventFault
parts_begun w a (Err (ResolveFault.NoRead n)) = Err (EventFault.NoRead n)
parts_begun w a (Err (ResolveFault.NoItem key)) = Ok (refused_without_item w key)
parts_begun w a (Err ResolveFault.Memory) = Err EventFault.Memory
parts_begun w a (Ok parts) = begun_by w a (transaction_of w.cluster.schema parts)

-- a begin line
abbrev pub after_begin : World → ℕ → List UpdateWord → Result Happened EventFault
after_begin w a words = parts_begun w a (resolve words (map Some w.reads))
