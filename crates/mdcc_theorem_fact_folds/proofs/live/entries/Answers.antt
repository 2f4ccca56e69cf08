use Rattle.mdcc_theorem_fact_folds.proofs.Loads.{entries-chain, entries-walk}
use Rattle.mdcc_theorem_fact_folds.proofs.Once.{entries-fold, entries-update}
use Rattle.mdcc_theorem_fact_folds.proofs.live.entries.Goals as goal

pub returns-clause-chain : goal.returns-clause-chain
returns-clause-chain c = entries-chain

pub returns-clause-walk : goal.returns-clause-walk
returns-clause-walk c = entries-walk

pub returns-clause-once : goal.returns-clause-once
returns-clause-once c = entries-fold

pub returns-clause-updates : goal.returns-clause-updates
returns-clause-updates c = entries-update
