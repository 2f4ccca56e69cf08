use Rattle.mdcc_theorem_fact_folds.proofs.Loads.{live-chain, load-walk}
use Rattle.mdcc_theorem_fact_folds.proofs.Steps.{load-steps}
use Rattle.mdcc_theorem_fact_folds.proofs.live.load.Goals as goal

pub returns-clause-chain : goal.returns-clause-chain
returns-clause-chain c = live-chain

pub returns-clause-walk : goal.returns-clause-walk
returns-clause-walk c = load-walk

pub returns-clause-steps : goal.returns-clause-steps
returns-clause-steps c = load-steps
