use Rattle.mdcc_theorem_fact_folds.proofs.Walked.{promise-walks}
use Rattle.mdcc_theorem_fact_folds.proofs.promises.promise.Goals as goal

pub returns : goal.returns
returns c = promise-walks
