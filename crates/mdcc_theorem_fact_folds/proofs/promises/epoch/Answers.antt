use Rattle.mdcc_theorem_fact_folds.proofs.Walked.{epoch-updates}
use Rattle.mdcc_theorem_fact_folds.proofs.promises.epoch.Goals as goal

pub returns : goal.returns
returns c = epoch-updates
