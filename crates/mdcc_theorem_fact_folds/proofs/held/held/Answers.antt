use Rattle.mdcc_theorem_fact_folds.proofs.Versions.{held-chain, held-elsewhere, held-updates}
use Rattle.mdcc_theorem_fact_folds.proofs.held.held.Goals as goal

pub returns-clause-updates : goal.returns-clause-updates
returns-clause-updates c = held-updates

pub returns-clause-elsewhere : goal.returns-clause-elsewhere
returns-clause-elsewhere c = held-elsewhere

pub returns-clause-chain : goal.returns-clause-chain
returns-clause-chain c = held-chain
