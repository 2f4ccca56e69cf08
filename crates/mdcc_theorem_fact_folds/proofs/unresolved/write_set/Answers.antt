use Rattle.mdcc_theorem_fact_folds.proofs.Unheard.{write_set-updates, write_set-unheard, write_set-walk}
use Rattle.mdcc_theorem_fact_folds.proofs.unresolved.write_set.Goals as goal

pub returns-clause-updates : goal.returns-clause-updates
returns-clause-updates c = write_set-updates

pub returns-clause-unheard : goal.returns-clause-unheard
returns-clause-unheard c = write_set-unheard

pub returns-clause-walk : goal.returns-clause-walk
returns-clause-walk c = write_set-walk
