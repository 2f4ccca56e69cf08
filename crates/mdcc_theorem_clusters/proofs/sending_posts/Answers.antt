-- The law is the lemma.
use Rattle.mdcc_theorem_clusters.proofs.Posted.{posts}
use Rattle.mdcc_theorem_clusters.proofs.sending_posts.Goals as goal

pub returns : goal.returns
returns c = λ config site envelopes. posts config site envelopes
