-- The law is the lemma.
use Rattle.mdcc_theorem_clusters.proofs.Discharged.{deployed}
use Rattle.mdcc_theorem_clusters.proofs.headline_of_clusters.Goals as goal

pub returns : goal.returns
returns c = deployed
