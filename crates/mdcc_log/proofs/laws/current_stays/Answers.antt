use Rattle.mdcc_log.proofs.Theorems.{current_stays}
use Rattle.mdcc_log.proofs.laws.current_stays.Goals as goal

pub returns : goal.returns
returns c = current_stays
