use Rattle.mdcc_theorem_fact_folds.proofs.Walked.{vote-chain, vote-walk}
use Rattle.mdcc_theorem_fact_folds.proofs.votes.vote_of.Goals as goal

pub returns-clause-chain : goal.returns-clause-chain
returns-clause-chain c = vote-chain

pub returns-clause-walk : goal.returns-clause-walk
returns-clause-walk c = vote-walk
