-- The law is the lemma.
use Rattle.mdcc_theorem_cluster_nodes.proofs.Centres.{all-centres-live}
use Rattle.mdcc_theorem_cluster_nodes.proofs.all_centres_live.Goals as goal

pub returns : goal.returns
returns row c = λ config call safe. all-centres-live _ _ _ _ _ _ config call safe
