-- The laws are the lemmas.
use Rattle.mdcc_theorem_trace.proofs.Laws.{all_sent, allowed, holds}
use Rattle.mdcc_theorem_trace.proofs.every_trace.Goals as goal

pub returns-clause-allowed : goal.returns-clause-allowed
returns-clause-allowed c = allowed

pub returns-clause-sent : goal.returns-clause-sent
returns-clause-sent c = all_sent

pub returns-clause-world : goal.returns-clause-world
returns-clause-world c = holds
