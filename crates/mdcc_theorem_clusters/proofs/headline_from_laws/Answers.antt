-- The law is the lemma.
use Rattle.mdcc_theorem_clusters.proofs.Headline.{headline}
use Rattle.mdcc_theorem_clusters.proofs.Truth.{execution-true}
use Rattle.mdcc_theorem_clusters.proofs.headline_from_laws.Goals as goal

pub returns : goal.returns
returns c = λ laws ledger_laws config is moves h. headline (λ l k i ms x. execution-true l k i ms x) laws ledger_laws config is moves h
