use Rattle.mdcc_theorem_audit.proofs.Whole.{no-choices}
use Rattle.mdcc_theorem_audit.proofs.choices.choices_never_contradict.Goals as goal

pub returns : goal.returns
returns c = no-choices
