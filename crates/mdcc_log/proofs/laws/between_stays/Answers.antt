use Rattle.mdcc_log.proofs.Theorems.{between_stays}
use Rattle.mdcc_log.proofs.laws.between_stays.Goals as goal

pub returns : goal.returns
returns c = between_stays
