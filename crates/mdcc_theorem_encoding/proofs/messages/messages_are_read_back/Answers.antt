use Rattle.mdcc_theorem_encoding.proofs.Whole.{message_again}
use Rattle.mdcc_theorem_encoding.proofs.messages.messages_are_read_back.Goals as goal

pub returns : goal.returns
returns c = message_again
