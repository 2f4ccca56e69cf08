use Rattle.mdcc_check_print.proofs.WholeTexts.{history-read}
use Rattle.mdcc_check_print.proofs.laws.printed_history_is_read.Goals as goal

pub returns : goal.returns
returns c = history-read
