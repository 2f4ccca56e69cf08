use Rattle.mdcc_theorem_fact_folds.proofs.Covered.{covers-deltas, covers-votes}
use Rattle.mdcc_theorem_fact_folds.proofs.chains.instance_covers.Goals as goal

pub returns-clause-votes : goal.returns-clause-votes
returns-clause-votes c = covers-votes

pub returns-clause-deltas : goal.returns-clause-deltas
returns-clause-deltas c = covers-deltas
