-- The law is the lemma.
use Rattle.mdcc_theorem_cluster_nodes.proofs.Clusters.{calls-told}
use Rattle.mdcc_theorem_cluster_nodes.proofs.headline_of_calls.Goals as goal

pub returns : goal.returns
returns row c = λ config is areas empty steps h. calls-told _ _ _ _ _ _ config is areas empty steps h
