use Rattle.mdcc_theorem_bounds.proofs.SumsTold.{sums_chosen, sums_sent}
use Rattle.mdcc_theorem_bounds.proofs.rooms.sums.Goals as goal

pub returns-clause-chosen : goal.returns-clause-chosen
returns-clause-chosen c = sums_chosen

pub returns-clause-structures : goal.returns-clause-structures
returns-clause-structures c = sums_sent
