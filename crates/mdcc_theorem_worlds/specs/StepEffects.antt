-- What a step brings to the ledger and the report.
use Rattle.std.specs.Option.{option_or}
use Rattle.std.specs.Prelude.{◌≡◌, Bool, Err, List, None, Ok, Option, Result, Some, [], ℕ, ◌++◌, ◌∷◌}
use Rattle.mdcc_base.specs.Sizes.{Sizes}
use Rattle.mdcc_base.specs.declared.identifiers.TxId.{TxId}
use Rattle.mdcc_base.specs.declared.outside.Image.{Image}
use Rattle.mdcc_def_ledger.specs.Ledger.{Added, Entry}
use Rattle.mdcc_def_rules.specs.Steps.{NodeStep}
use Rattle.mdcc_def_simulation.specs.State.{Happened, World, centre_at}
use Rattle.mdcc_def_simulation.specs.Limits.{passed_bytes_limit, input_limited, passed_log_limit, unless_limit}
use Rattle.mdcc_def_simulation.specs.AppliedSteps.{chosen_lines, heard_lines, input_happened, step_stopped, step_applied}
use Rattle.mdcc_def_simulation.specs.Checkpoints.{striking_at, tail_after_append}
use Rattle.mdcc_def_messages.specs.declared.facts.Fact.{Fact}
use Rattle.mdcc_def_language.specs.declared.lines.Line.{Line}
use Rattle.mdcc_def_messages.specs.declared.messages.Envelope.{Envelope}
use Rattle.mdcc_def_rules.specs.declared.node.StepFault.{StepFault}
use Rattle.mdcc_def_language.specs.declared.world.EventFault.{EventFault}

-- the ledger with a fact of a centre, where there is one
abbrev pub ledger_with_fact : ℕ → Option Fact → List Entry → List Entry
ledger_with_fact a None entries = entries
ledger_with_fact a (Some fact) entries = Added a fact ∷ entries

-- the lines of a fact
abbrev pub fact_lines : Sizes → ℕ → Fact → List Entry → List Line
fact_lines quorums a fact entries = chosen_lines quorums (Added a fact) entries ++ heard_lines a fact

-- the lines of a step, behind a ledger
abbrev pub step_lines : Sizes → ℕ → Option Fact → List Entry → List Line
step_lines quorums a None entries = []
step_lines quorums a (Some fact) entries = fact_lines quorums a fact entries

-- the line of an outcome that came: true is commit
abbrev pub chosen_line : TxId × Bool → Line
chosen_line ending = Line.Chosen ending.0 ending.1

-- the frames of the tail of the log of a centre after a step with this fact, where one is
abbrev pub tail_with_fact : World → ℕ → Option Fact → ℕ
tail_with_fact w a None = (centre_at w a).tail
tail_with_fact w a (Some fact) = tail_after_append (centre_at w a).tail

-- the world after a step
abbrev pub world_after_step : World → ℕ → NodeStep → World
world_after_step w a step = record (step_applied w a (tail_with_fact w a step.fact) step) { ledger = ledger_with_fact a step.fact (step.entries ++ w.ledger) }

abbrev pub after_whole_step : World → ℕ → NodeStep → Happened
after_whole_step w a step = record {
  world = world_after_step w a step;
  lines = step_lines w.cluster.quorums a step.fact (step.entries ++ w.ledger);
}

-- the limit that a step would pass that no stop strikes
abbrev pub limit_passed : World → ℕ → Option Fact → List Envelope → Option EventFault
limit_passed w a None sends = passed_bytes_limit w sends
limit_passed w a (Some fact) sends = option_or (passed_log_limit w a fact) (passed_bytes_limit w sends)

-- what comes of it
abbrev pub reported_whole : World → ℕ → NodeStep → Result Happened EventFault
reported_whole w a step = unless_limit (limit_passed w a step.fact step.sends) (after_whole_step w a step)

-- what comes of a step that a stop strikes: it sends nothing, so that the limit of the log alone is asked
abbrev pub reported_stopped : World → ℕ → Fact → ℕ × Image → Result Happened EventFault
reported_stopped w a fact stop = unless_limit (passed_log_limit w a fact) (step_stopped w a fact stop)

-- what comes of a step with this fact, where one is, that a stop strikes or none
abbrev pub reported_by : World → ℕ → NodeStep → Option Fact → Option (ℕ × Image) → Result Happened EventFault
reported_by w a step None stop = reported_whole w a step
reported_by w a step (Some fact) None = reported_whole w a step
reported_by w a step (Some fact) (Some stop) = reported_stopped w a fact stop

-- what comes of a step
abbrev pub step_reported : World → ℕ → Result NodeStep StepFault → Result Happened EventFault
step_reported w a (Ok step) = reported_by w a step step.fact (striking_at w a)
step_reported w a (Err fault) = Ok (input_happened w a (Err fault))

-- an input comes to this
abbrev pub InputsHappen : Type 0
InputsHappen =
    (w : World) (a : ℕ) (result : Result NodeStep StepFault)
    → input_limited w a result ≡ step_reported w a result
