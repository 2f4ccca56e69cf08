-- The law is the lemma.
use Rattle.mdcc_theorem_cluster_nodes.proofs.Calls.{calls-are-lives}
use Rattle.mdcc_theorem_cluster_nodes.proofs.calls_are_lives.Goals as goal

pub returns : goal.returns
returns row c = λ config call granted first second one two. calls-are-lives _ _ _ _ _ _ config call granted first second one two
