use Rattle.mdcc_theorem_fact_folds.proofs.Walked.{choice-chain, choice-walk}
use Rattle.mdcc_theorem_fact_folds.proofs.votes.choice_of.Goals as goal

pub returns-clause-chain : goal.returns-clause-chain
returns-clause-chain c = choice-chain

pub returns-clause-walk : goal.returns-clause-walk
returns-clause-walk c = choice-walk
