use Rattle.mdcc_log.proofs.Theorems.{other_is_spare}
use Rattle.mdcc_log.proofs.laws.other_is_spare.Goals as goal

pub returns : goal.returns
returns c = other_is_spare
