use Rattle.mdcc_theorem_fact_folds.proofs.Loads.{is_live-walk, update-walk}
use Rattle.mdcc_theorem_fact_folds.proofs.live.update.Goals as goal

pub returns-clause-walk : goal.returns-clause-walk
returns-clause-walk c = update-walk

pub returns-clause-live : goal.returns-clause-live
returns-clause-live c = is_live-walk
