use Rattle.mdcc_theorem_encoding.proofs.Whole.{facts_apart}
use Rattle.mdcc_theorem_encoding.proofs.facts.no_fact_begins_another.Goals as goal

pub returns : goal.returns
returns c = facts_apart
