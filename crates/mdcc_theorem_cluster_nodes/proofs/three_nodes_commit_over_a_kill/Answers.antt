-- It computes.
use Rattle.std.proofs.Common.{refl}
use Rattle.mdcc_theorem_cluster_nodes.proofs.Examples.{example-calls}
use Rattle.mdcc_theorem_cluster_nodes.proofs.three_nodes_commit_over_a_kill.Goals as goal

pub returns-clause-calls : goal.returns-clause-calls
returns-clause-calls c = example-calls

pub returns-clause-lines : goal.returns-clause-lines
returns-clause-lines c = refl
