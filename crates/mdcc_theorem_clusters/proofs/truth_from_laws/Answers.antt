-- The law is the lemma.
use Rattle.mdcc_theorem_clusters.proofs.Truth.{execution-true}
use Rattle.mdcc_theorem_clusters.proofs.truth_from_laws.Goals as goal

pub returns : goal.returns
returns c = λ laws config is moves h. execution-true laws config is moves h
