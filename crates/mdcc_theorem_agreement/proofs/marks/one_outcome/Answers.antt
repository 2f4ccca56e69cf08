use Rattle.mdcc_theorem_agreement.proofs.LawsTold.{outcome_kept, commit_begun}
use Rattle.mdcc_theorem_agreement.proofs.marks.one_outcome.Goals as goal

pub returns-clause-stays : goal.returns-clause-stays
returns-clause-stays c = outcome_kept

pub returns-clause-own : goal.returns-clause-own
returns-clause-own c = commit_begun
