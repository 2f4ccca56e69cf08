use Rattle.mdcc_theorem_encoding.proofs.Whole.{messages_apart}
use Rattle.mdcc_theorem_encoding.proofs.messages.no_message_begins_another.Goals as goal

pub returns : goal.returns
returns c = messages_apart
