-- The law is the lemma.
use Rattle.mdcc_theorem_trace_answers.proofs.Proposing.{not-waiting}
use Rattle.mdcc_theorem_trace_answers.proofs.no_leader_waits_with_enough.Goals as goal

pub returns : goal.returns
returns c = not-waiting
