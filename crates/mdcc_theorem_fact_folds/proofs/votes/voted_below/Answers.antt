use Rattle.mdcc_theorem_fact_folds.proofs.Walked.{below-chain, below-walk}
use Rattle.mdcc_theorem_fact_folds.proofs.votes.voted_below.Goals as goal

pub returns-clause-chain : goal.returns-clause-chain
returns-clause-chain c = below-chain

pub returns-clause-walk : goal.returns-clause-walk
returns-clause-walk c = below-walk
