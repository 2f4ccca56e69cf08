use Rattle.mdcc_log.proofs.LogReads.{log_is_read}
use Rattle.mdcc_log.proofs.laws.log_is_read.Goals as goal

pub returns : goal.returns
returns c = log_is_read
