-- The law is the lemma.
use Rattle.mdcc_theorem_clusters.proofs.Tracing.{traces-executed}
use Rattle.mdcc_theorem_clusters.proofs.traces_are_executions.Goals as goal

pub returns : goal.returns
returns c = λ config events h. traces-executed config events h
