-- The law is the lemma.
use Rattle.mdcc_theorem_trace_states.specs.Sound.{IsSound}
use Rattle.mdcc_theorem_trace_states.proofs.Schedules.{trace-holds}
use Rattle.mdcc_theorem_trace_states.proofs.good_steps_suffice.Goals as goal

pub returns : goal.returns
returns c = record { world = λ good cluster is events. trace-holds IsSound cluster good is.quorums events }
