use Rattle.mdcc_theorem_encoding.proofs.Whole.{are_bytes, fact_takes}
use Rattle.mdcc_theorem_encoding.proofs.facts.facts_have_one_spelling.Goals as goal

pub returns : goal.returns
returns c = λ bytes fact h e. (fact_takes bytes fact (are_bytes bytes h) e).1
