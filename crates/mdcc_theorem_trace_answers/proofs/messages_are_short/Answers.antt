use Rattle.mdcc_theorem_trace_answers.proofs.MessagesAreShort.{messages-short, well_formed-short}
use Rattle.mdcc_theorem_trace_answers.proofs.messages_are_short.Goals as goal

pub returns-clause-well_formed : goal.returns-clause-well_formed
returns-clause-well_formed c = well_formed-short

pub returns-clause-all : goal.returns-clause-all
returns-clause-all c = messages-short
