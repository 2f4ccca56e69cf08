use Rattle.mdcc_theorem_fact_folds.proofs.Kept.{none-added, stay-added}
use Rattle.mdcc_theorem_fact_folds.proofs.added.added.Goals as goal

pub returns-clause-none : goal.returns-clause-none
returns-clause-none c = none-added

pub returns-clause-more : goal.returns-clause-more
returns-clause-more c = stay-added
