-- The law is the lemma.
use Rattle.mdcc_theorem_cluster_nodes.proofs.Clusters.{killed-lives}
use Rattle.mdcc_theorem_cluster_nodes.proofs.killed_calls_are_lives.Goals as goal

pub returns : goal.returns
returns row c = λ config a found acts left killed. killed-lives _ _ _ _ _ _ config a found acts left killed
