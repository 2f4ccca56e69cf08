use Rattle.mdcc_theorem_fact_folds.proofs.Deltas.{crowding-chains, next-counted}
use Rattle.mdcc_theorem_fact_folds.proofs.Steps.{crowding-steps, first-deltas}
use Rattle.mdcc_theorem_fact_folds.proofs.held.would_crowd.Goals as goal

pub returns-clause-chains : goal.returns-clause-chains
returns-clause-chains c = crowding-chains

pub returns-clause-counted : goal.returns-clause-counted
returns-clause-counted c = next-counted

pub returns-clause-ordered : goal.returns-clause-ordered
returns-clause-ordered c = first-deltas

pub returns-clause-steps : goal.returns-clause-steps
returns-clause-steps c = crowding-steps
