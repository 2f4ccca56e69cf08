use Rattle.mdcc_log.proofs.Choice.{between_is_read}
use Rattle.mdcc_log.proofs.laws.between_is_read.Goals as goal

pub returns : goal.returns
returns c = between_is_read
