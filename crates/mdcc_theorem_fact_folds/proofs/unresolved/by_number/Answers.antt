use Rattle.mdcc_theorem_fact_folds.proofs.Numbered.{found-number, put-number, taken-number}
use Rattle.mdcc_theorem_fact_folds.proofs.unresolved.by_number.Goals as goal

pub returns-clause-put : goal.returns-clause-put
returns-clause-put c = put-number

pub returns-clause-taken : goal.returns-clause-taken
returns-clause-taken c = taken-number

pub returns-clause-found : goal.returns-clause-found
returns-clause-found c = found-number
