use Rattle.mdcc_log.proofs.Theorems.{idle_stays}
use Rattle.mdcc_log.proofs.laws.idle_stays.Goals as goal

pub returns : goal.returns
returns c = idle_stays
