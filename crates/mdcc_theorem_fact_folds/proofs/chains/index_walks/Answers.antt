use Rattle.mdcc_theorem_fact_folds.proofs.IndexWalked.{instance-walked, outcomes-walked, promises-walked}
use Rattle.mdcc_theorem_fact_folds.proofs.chains.index_walks.Goals as goal

pub returns-clause-instance : goal.returns-clause-instance
returns-clause-instance c = instance-walked

pub returns-clause-promises : goal.returns-clause-promises
returns-clause-promises c = promises-walked

pub returns-clause-outcomes : goal.returns-clause-outcomes
returns-clause-outcomes c = outcomes-walked
