use Rattle.mdcc_check_histories.proofs.TextLaws.{yes-text}
use Rattle.mdcc_check_histories.proofs.laws.text_yes_is_right.Goals as goal

pub returns : goal.returns
returns c = yes-text
