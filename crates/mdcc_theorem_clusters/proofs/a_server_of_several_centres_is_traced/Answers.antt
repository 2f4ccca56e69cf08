-- The laws are the lemmas.
use Rattle.mdcc_theorem_clusters.proofs.Several.{all-acts, centre-acts}
use Rattle.mdcc_theorem_clusters.proofs.SeveralTraced.{these-done}
use Rattle.mdcc_theorem_clusters.proofs.a_server_of_several_centres_is_traced.Goals as goal

pub returns-clause-all : goal.returns-clause-all
returns-clause-all c = λ config logs turns. all-acts config logs turns

pub returns-clause-own : goal.returns-clause-own
returns-clause-own c = λ config before log after turns h k long. centre-acts config before log after turns h k long

pub returns-clause-traced : goal.returns-clause-traced
returns-clause-traced c = λ config trace acts more have. these-done config trace acts more have
