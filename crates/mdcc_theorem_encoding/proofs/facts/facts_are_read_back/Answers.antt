use Rattle.mdcc_theorem_encoding.proofs.Whole.{fact_again}
use Rattle.mdcc_theorem_encoding.proofs.facts.facts_are_read_back.Goals as goal

pub returns : goal.returns
returns c = fact_again
