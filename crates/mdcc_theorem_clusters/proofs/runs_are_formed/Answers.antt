-- The law is the lemma.
use Rattle.mdcc_theorem_clusters.proofs.Formed.{formed-run}
use Rattle.mdcc_theorem_clusters.proofs.runs_are_formed.Goals as goal

pub returns : goal.returns
returns c = λ laws cluster me node inputs there w room. formed-run laws cluster me node inputs there w room
