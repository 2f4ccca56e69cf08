use Rattle.mdcc_theorem_fact_folds.proofs.Found.{found-chain, instance-found, outcomes-found, promises-found}
use Rattle.mdcc_theorem_fact_folds.proofs.chains.walks_find_chains.Goals as goal

pub returns-clause-instance : goal.returns-clause-instance
returns-clause-instance c = instance-found

pub returns-clause-promises : goal.returns-clause-promises
returns-clause-promises c = promises-found

pub returns-clause-outcomes : goal.returns-clause-outcomes
returns-clause-outcomes c = outcomes-found

pub returns-clause-facts : goal.returns-clause-facts
returns-clause-facts c = found-chain
