use Rattle.mdcc_theorem_fact_folds.proofs.Unheard.{unresolved-ascends, unresolved-updates}
use Rattle.mdcc_theorem_fact_folds.proofs.unresolved.unresolved.Goals as goal

pub returns-clause-updates : goal.returns-clause-updates
returns-clause-updates c = unresolved-updates

pub returns-clause-ascends : goal.returns-clause-ascends
returns-clause-ascends c = unresolved-ascends
