use Rattle.mdcc_theorem_fact_folds.proofs.Unheard.{outcome-unknown, vote-known}
use Rattle.mdcc_theorem_fact_folds.proofs.unresolved.unchanged.Goals as goal

pub returns-clause-known : goal.returns-clause-known
returns-clause-known c = vote-known

pub returns-clause-unknown : goal.returns-clause-unknown
returns-clause-unknown c = outcome-unknown
