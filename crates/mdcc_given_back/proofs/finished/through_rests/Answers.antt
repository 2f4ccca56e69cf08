use Rattle.mdcc_given_back.proofs.ThroughLeft.{through-by-rest, through-ends, through-stays}
use Rattle.mdcc_given_back.proofs.finished.through_rests.Goals as goal

pub returns-clause-through : goal.returns-clause-through
returns-clause-through c = through-stays

pub returns-clause-by_rest : goal.returns-clause-by_rest
returns-clause-by_rest c = through-by-rest

pub returns-clause-ends : goal.returns-clause-ends
returns-clause-ends c = through-ends
