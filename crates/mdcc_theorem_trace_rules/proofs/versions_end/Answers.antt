-- The law is the lemma.
use Rattle.mdcc_theorem_trace_rules.proofs.Promises.{current-within}
use Rattle.mdcc_theorem_trace_rules.proofs.versions_end.Goals as goal

pub returns : goal.returns
returns c = current-within
