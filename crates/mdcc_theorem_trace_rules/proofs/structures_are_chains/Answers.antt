-- The law is the lemma.
use Rattle.mdcc_theorem_trace_rules.proofs.Chains.{chain}
use Rattle.mdcc_theorem_trace_rules.proofs.structures_are_chains.Goals as goal

pub returns : goal.returns
returns c = chain
