-- The law is the lemma.
use Rattle.mdcc_theorem_trace_answers.proofs.Ticks.{none-refused}
use Rattle.mdcc_theorem_trace_answers.proofs.no_claim_is_refused_at_a_tick.Goals as goal

pub returns : goal.returns
returns c = none-refused
