use Rattle.mdcc_theorem_encoding.proofs.Longest.{longest_choice}
use Rattle.mdcc_theorem_encoding.proofs.sizes.choices_are_short.Goals as goal

pub returns : goal.returns
returns c = longest_choice
