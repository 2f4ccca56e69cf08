-- The law is the lemma.
use Rattle.mdcc_theorem_server_lives.proofs.Telling.{histories-told}
use Rattle.mdcc_theorem_server_lives.proofs.headline_of_histories.Goals as goal

pub returns : goal.returns
returns c = λ config is steps h. histories-told config is steps h
