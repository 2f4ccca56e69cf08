use Rattle.mdcc_theorem_encoding.proofs.Whole.{are_bytes, message_takes}
use Rattle.mdcc_theorem_encoding.proofs.messages.messages_have_one_spelling.Goals as goal

pub returns : goal.returns
returns c = λ bytes envelope h e. (message_takes bytes envelope (are_bytes bytes h) e).1
