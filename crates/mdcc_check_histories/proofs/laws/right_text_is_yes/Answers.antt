use Rattle.mdcc_check_histories.proofs.TextLaws.{right-text}
use Rattle.mdcc_check_histories.proofs.laws.right_text_is_yes.Goals as goal

pub returns : goal.returns
returns c = right-text
