use Rattle.mdcc_theorem_fact_folds.proofs.Deltas.{delta-walk, executed-chain}
use Rattle.mdcc_theorem_fact_folds.proofs.Present.{executed-join}
use Rattle.mdcc_theorem_fact_folds.proofs.held.executed.Goals as goal

pub returns-clause-chain : goal.returns-clause-chain
returns-clause-chain c = executed-chain

pub returns-clause-txs : goal.returns-clause-txs
returns-clause-txs c = executed-join

pub returns-clause-delta : goal.returns-clause-delta
returns-clause-delta c = delta-walk
