use Rattle.mdcc_theorem_fact_folds.proofs.Walked.{ended-walk, is_void-walk}
use Rattle.mdcc_theorem_fact_folds.proofs.outcomes.ended.Goals as goal

pub returns-clause-commit : goal.returns-clause-commit
returns-clause-commit c = ended-walk

pub returns-clause-void : goal.returns-clause-void
returns-clause-void c = is_void-walk
