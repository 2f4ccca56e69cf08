use Rattle.mdcc_theorem_fact_folds.proofs.Walked.{is_heard-walk}
use Rattle.mdcc_theorem_fact_folds.proofs.outcomes.is_heard.Goals as goal

pub returns : goal.returns
returns c = is_heard-walk
