use Rattle.mdcc_log.proofs.Dues.{mixed_read}
use Rattle.mdcc_log.proofs.laws.due_is_read.Goals as goal

pub returns : goal.returns
returns c = mixed_read
