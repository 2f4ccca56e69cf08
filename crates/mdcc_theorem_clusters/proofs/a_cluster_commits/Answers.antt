-- By computation.
use Rattle.std.proofs.Common.{refl}
use Rattle.mdcc_theorem_clusters.proofs.Examples.{commits-executed}
use Rattle.mdcc_theorem_clusters.proofs.a_cluster_commits.Goals as goal

pub returns-clause-lines : goal.returns-clause-lines
returns-clause-lines c = refl

pub returns-clause-sent : goal.returns-clause-sent
returns-clause-sent c = refl

pub returns-clause-executed : goal.returns-clause-executed
returns-clause-executed c = commits-executed
