-- By computation.
use Rattle.std.proofs.Common.{refl}
use Rattle.mdcc_theorem_clusters.proofs.no_vote_comes_unsent.Goals as goal

pub returns-clause-early : goal.returns-clause-early
returns-clause-early c = refl

pub returns-clause-forged : goal.returns-clause-forged
returns-clause-forged c = refl
