use Rattle.mdcc_theorem_fact_folds.proofs.Deltas.{deltas-chain, deltas-counted, deltas-walk}
use Rattle.mdcc_theorem_fact_folds.proofs.held.deltas.Goals as goal

pub returns-clause-chain : goal.returns-clause-chain
returns-clause-chain c = deltas-chain

pub returns-clause-walk : goal.returns-clause-walk
returns-clause-walk c = deltas-walk

pub returns-clause-counted : goal.returns-clause-counted
returns-clause-counted c = deltas-counted
