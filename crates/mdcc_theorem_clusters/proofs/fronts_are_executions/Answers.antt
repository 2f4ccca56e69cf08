-- The law is the lemma.
use Rattle.mdcc_theorem_clusters.proofs.Fronts.{front-executed}
use Rattle.mdcc_theorem_clusters.proofs.fronts_are_executions.Goals as goal

pub returns : goal.returns
returns c = λ config state first more h. front-executed config state first more h
