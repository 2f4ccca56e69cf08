-- The law is the lemma.
use Rattle.mdcc_theorem_cluster_nodes.proofs.Clusters.{fronts-called}
use Rattle.mdcc_theorem_cluster_nodes.proofs.fronts_are_calls.Goals as goal

pub returns : goal.returns
returns row c = λ config cluster first more h. fronts-called _ _ _ _ _ _ config cluster first more h
