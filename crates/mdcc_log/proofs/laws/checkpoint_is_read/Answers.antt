use Rattle.mdcc_log.proofs.Theorems.{checkpoint_is_read}
use Rattle.mdcc_log.proofs.laws.checkpoint_is_read.Goals as goal

pub returns : goal.returns
returns c = checkpoint_is_read
