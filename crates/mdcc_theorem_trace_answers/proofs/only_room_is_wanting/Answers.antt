-- The law is the lemma.
use Rattle.mdcc_theorem_trace_answers.proofs.Traces.{all-answered}
use Rattle.mdcc_theorem_trace_answers.proofs.only_room_is_wanting.Goals as goal

pub returns : goal.returns
returns c = all-answered
