use Rattle.mdcc_theorem_encoding.proofs.Lengths.{length-message, length-fact}
use Rattle.mdcc_theorem_encoding.proofs.sizes.lengths_are_exact.Goals as goal

pub returns-clause-messages : goal.returns-clause-messages
returns-clause-messages c = length-message

pub returns-clause-facts : goal.returns-clause-facts
returns-clause-facts c = length-fact
