use Rattle.mdcc_facts_held.proofs.Sizes.{few_some, not_few}
use Rattle.mdcc_facts_held.proofs.deltas.executed_if_few.Goals as goal

pub returns-in-Some : goal.returns-in-Some
returns-in-Some c = λ few. (few_some _ _ c.in-Some.ensures).1

pub returns-in-None : goal.returns-in-None
returns-in-None c = λ few. absurd (not_few _ c.in-None.ensures few)
