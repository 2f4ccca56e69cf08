use Rattle.mdcc_option.proofs.Equal.{Decides-choices}
use Rattle.mdcc_audit.proofs.Exact.{same-test}
use Rattle.mdcc_audit.proofs.values.same_choices.Goals as goal

pub returns : goal.returns
returns c = same-test _ _ c.same_values.ensures (Decides-choices _ _)
