use Rattle.mdcc_theorem_fact_folds.proofs.Once.{count-chain, count-fold}
use Rattle.mdcc_theorem_fact_folds.proofs.live.count_voted.Goals as goal

pub returns-clause-chain : goal.returns-clause-chain
returns-clause-chain c = count-chain

pub returns-clause-once : goal.returns-clause-once
returns-clause-once c = count-fold
