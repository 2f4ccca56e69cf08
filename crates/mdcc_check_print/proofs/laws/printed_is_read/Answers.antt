use Rattle.mdcc_check_print.proofs.LineTexts.{printed-read}
use Rattle.mdcc_check_print.proofs.laws.printed_is_read.Goals as goal

pub returns : goal.returns
returns c = printed-read
