use Rattle.mdcc_theorem_node_steps.proofs.Stepping.{votes-stay}
use Rattle.mdcc_theorem_node_steps.proofs.votes_stay_of_the_cluster.Goals as goal

pub returns-clause-stays : goal.returns-clause-stays
returns-clause-stays c = votes-stay
