use Rattle.mdcc_theorem_fact_folds.proofs.Joined.{votes-chain, votes-walk}
use Rattle.mdcc_theorem_fact_folds.proofs.Once.{votes-join}
use Rattle.mdcc_theorem_fact_folds.proofs.votes.votes.Goals as goal

pub returns-clause-chain : goal.returns-clause-chain
returns-clause-chain c = votes-chain

pub returns-clause-walk : goal.returns-clause-walk
returns-clause-walk c = votes-walk

pub returns-clause-once : goal.returns-clause-once
returns-clause-once c = votes-join
