-- What becomes of a step of one node: it counts whole, or its append stops and nothing of it but its fact may count.
use Rattle.std.specs.Prelude.{Err, List, None, Ok, Option, Result, Some, [], if◌then◌else◌, map, ℕ, ◌++◌, ◌+◌, ◌∷◌}
use Rattle.mdcc_base.specs.Sizes.{Sizes}
use Rattle.mdcc_def_ledger.specs.Ledger.{Added, Entry, facts_of, new_outcomes}
use Rattle.mdcc_def_messages.specs.Lengths.{messages_length}
use Rattle.mdcc_def_protocol.specs.Marks.{is_commit}
use Rattle.mdcc_def_rules.specs.Node.{step_of}
use Rattle.mdcc_def_rules.specs.Steps.{NodeStep}
use Rattle.mdcc_def_messages.specs.declared.facts.Fact.{Fact}
use Rattle.mdcc_base.specs.declared.outside.Image.{Image}
use Rattle.mdcc_def_language.specs.declared.lines.Line.{Line}
use Rattle.mdcc_def_rules.specs.declared.node.Input.{Input}
use Rattle.mdcc_def_rules.specs.declared.node.StepFault.{StepFault}
use Rattle.mdcc_def_messages.specs.Mailbox.{unsent}
use Rattle.mdcc_def_simulation.specs.State.{World, down, centre_at, with_centre, Happened}
use Rattle.mdcc_def_simulation.specs.Checkpoints.{is_frame_kept, striking_at, tail_after_append, tail_stopped}
use Rattle.mdcc_def_rules.specs.Here.{here}

-- the lines of the outcomes that an entry brings
abbrev pub chosen_lines : Sizes → Entry → List Entry → List Line
chosen_lines quorums entry before = map (λ e. Line.Chosen e.0 (is_commit e.1)) (new_outcomes quorums entry before)

-- the line of an outcome that was heard
abbrev pub heard_lines : ℕ → Fact → List Line
heard_lines a (Fact.Heard tx outcome) = Line.Heard a tx (is_commit outcome) ∷ []
heard_lines a _ = []

-- the step is taken whole, its fact apart; the tail of the log has this many frames afterwards
abbrev pub step_applied : World → ℕ → ℕ → NodeStep → World
step_applied w a tail step =
    record (with_centre w a (record (centre_at w a) { tail = tail; volatile = step.after })) {
      ledger = step.entries ++ w.ledger;
      sent = w.sent ++ map unsent step.sends;
      bytes = w.bytes + messages_length step.sends;
    }

abbrev pub fact_applied : World → ℕ → NodeStep → Fact → Happened
fact_applied w a step fact =
    let after = step_applied w a (tail_after_append (centre_at w a).tail) step in
    record {
      world = record after { ledger = Added a fact ∷ after.ledger };
      lines = chosen_lines w.cluster.quorums (Added a fact) after.ledger ++ heard_lines a fact;
    }

-- the append, or the checkpoint after it, stops: nothing is sent, and the fact counts where its frame is in the image
abbrev pub step_stopped : World → ℕ → Fact → ℕ × Image → Happened
step_stopped w a fact stop =
    let after = with_centre w a (down (tail_stopped (centre_at w a).tail stop.0 stop.1)) in
    if is_frame_kept stop.0 stop.1
    then record {
      world = record after { ledger = Added a fact ∷ w.ledger };
      lines = Line.Stopped a ∷ chosen_lines w.cluster.quorums (Added a fact) w.ledger;
    }
    else record { world = after; lines = Line.Stopped a ∷ [] }

abbrev pub fact_happened : World → ℕ → NodeStep → Fact → Option (ℕ × Image) → Happened
fact_happened w a step fact None = fact_applied w a step fact
fact_happened w a step fact (Some stop) = step_stopped w a fact stop

abbrev pub step_happened_by : World → ℕ → NodeStep → Option Fact → Happened
step_happened_by w a step None = record { world = step_applied w a (centre_at w a).tail step; lines = [] }
step_happened_by w a step (Some fact) = fact_happened w a step fact (striking_at w a)

abbrev pub step_happened : World → ℕ → NodeStep → Happened
step_happened w a step = step_happened_by w a step step.fact

-- a step that the node refuses changes nothing; where it is for want of room, that is told
abbrev pub input_happened : World → ℕ → Result NodeStep StepFault → Happened
input_happened w a (Ok step) = step_happened w a step
input_happened w a (Err (StepFault.NoRoom needed spare)) = record { world = w; lines = Line.Dropped a needed spare ∷ [] }
input_happened w a (Err fault) = record { world = w; lines = [] }

-- the step of a centre on an input
abbrev pub step_at : World → ℕ → Input → Result NodeStep StepFault
step_at w a input = step_of (here w.cluster a (facts_of w.ledger a)) (centre_at w a).volatile input
