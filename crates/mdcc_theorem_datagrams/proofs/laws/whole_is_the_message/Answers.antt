use Rattle.mdcc_theorem_datagrams.proofs.Joined.{joined_whole}
use Rattle.mdcc_theorem_datagrams.proofs.laws.whole_is_the_message.Goals as goal

pub returns : goal.returns
returns c = λ head index message entries h m within only bytes whole. joined_whole head index message entries h m within only bytes whole
