use Rattle.mdcc_theorem_agreement.proofs.LawsTold.{forgotten_told, shown_others}
use Rattle.mdcc_theorem_agreement.proofs.forgotten.forgotten_marks.Goals as goal

pub returns-clause-heard : goal.returns-clause-heard
returns-clause-heard c = forgotten_told

pub returns-clause-others : goal.returns-clause-others
returns-clause-others c = shown_others
