use Rattle.mdcc_theorem_encoding.proofs.Whole.{are_bytes, message_takes}
use Rattle.mdcc_theorem_encoding.proofs.messages.messages_read_are_well_formed.Goals as goal

pub returns : goal.returns
returns c = λ bytes envelope h e. (message_takes bytes envelope (are_bytes bytes h) e).0
