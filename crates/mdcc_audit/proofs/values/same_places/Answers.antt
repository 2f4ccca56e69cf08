use Rattle.mdcc_option.proofs.Equal.{Decides-write_set}
use Rattle.mdcc_audit.proofs.Exact.{same-test}
use Rattle.mdcc_audit.proofs.values.same_places.Goals as goal

pub returns : goal.returns
returns c = same-test _ _ c.same_values.ensures (Decides-write_set _ _)
