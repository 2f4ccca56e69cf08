-- The law is the lemma.
use Rattle.mdcc_theorem_clusters.proofs.TraceHeadline.{trace-headline}
use Rattle.mdcc_theorem_clusters.proofs.headline_of_servers.Goals as goal

pub returns : goal.returns
returns c = λ config is events h. trace-headline config is events h
