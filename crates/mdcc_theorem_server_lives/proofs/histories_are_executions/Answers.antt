-- The law is the lemma.
use Rattle.mdcc_theorem_server_lives.proofs.Living.{histories-executed}
use Rattle.mdcc_theorem_server_lives.proofs.histories_are_executions.Goals as goal

pub returns : goal.returns
returns c = λ config is steps h. histories-executed config is steps h
