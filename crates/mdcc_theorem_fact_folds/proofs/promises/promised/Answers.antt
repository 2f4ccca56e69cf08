use Rattle.mdcc_theorem_fact_folds.proofs.Walked.{promised-chain, promised-walk}
use Rattle.mdcc_theorem_fact_folds.proofs.promises.promised.Goals as goal

pub returns-clause-chain : goal.returns-clause-chain
returns-clause-chain c = promised-chain

pub returns-clause-walk : goal.returns-clause-walk
returns-clause-walk c = promised-walk
