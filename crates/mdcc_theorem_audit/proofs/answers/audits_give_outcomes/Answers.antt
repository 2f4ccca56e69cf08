use Rattle.mdcc_theorem_audit.proofs.Whole.{audited}
use Rattle.mdcc_theorem_audit.proofs.answers.audits_give_outcomes.Goals as goal

pub returns : goal.returns
returns c = audited
