use Rattle.mdcc_log.proofs.Choice.{current_is_read}
use Rattle.mdcc_log.proofs.laws.current_is_read.Goals as goal

pub returns : goal.returns
returns c = current_is_read
