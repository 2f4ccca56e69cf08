use Rattle.mdcc_theorem_fact_folds.proofs.Sorted.{first-live, well_formed-ordered}
use Rattle.mdcc_theorem_fact_folds.proofs.live.first_live.Goals as goal

pub returns-clause-well_formed : goal.returns-clause-well_formed
returns-clause-well_formed c = well_formed-ordered

pub returns-clause-ordered : goal.returns-clause-ordered
returns-clause-ordered c = first-live
