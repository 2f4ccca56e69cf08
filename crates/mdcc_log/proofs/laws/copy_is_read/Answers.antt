use Rattle.mdcc_log.proofs.LogReads.{copy_is_read}
use Rattle.mdcc_log.proofs.laws.copy_is_read.Goals as goal

pub returns : goal.returns
returns c = copy_is_read
