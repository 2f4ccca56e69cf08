-- By computation.
use Rattle.std.proofs.Common.{refl}
use Rattle.mdcc_theorem_clusters.proofs.CrashHeadline.{crash-truth}
use Rattle.mdcc_theorem_clusters.proofs.Examples.{crash-executed, crash-lines}
use Rattle.mdcc_theorem_clusters.proofs.three_centres_commit_over_a_crash.Goals as goal

pub returns-clause-executed : goal.returns-clause-executed
returns-clause-executed c = crash-executed

pub returns-clause-lines : goal.returns-clause-lines
returns-clause-lines c = crash-lines

pub returns-clause-kept : goal.returns-clause-kept
returns-clause-kept c = refl

pub returns-clause-lost : goal.returns-clause-lost
returns-clause-lost c = refl

pub returns-clause-truth : goal.returns-clause-truth
returns-clause-truth c = crash-truth
