use Rattle.mdcc_theorem_fact_folds.proofs.Found.{eight-instances}
use Rattle.mdcc_theorem_fact_folds.proofs.chains.entered_eight_times.Goals as goal

pub returns : goal.returns
returns c = eight-instances
