use Rattle.mdcc_theorem_fact_folds.proofs.Walked.{heard-at_first, heard-chain, heard-walk}
use Rattle.mdcc_theorem_fact_folds.proofs.outcomes.heard.Goals as goal

pub returns-clause-chain : goal.returns-clause-chain
returns-clause-chain c = heard-chain

pub returns-clause-walk : goal.returns-clause-walk
returns-clause-walk c = heard-walk

pub returns-clause-once : goal.returns-clause-once
returns-clause-once c = heard-at_first
