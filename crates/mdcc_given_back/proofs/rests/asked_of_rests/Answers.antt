use Rattle.mdcc_given_back.proofs.Walked.{ballot-stays, epoch-stays, promise-stays, range-stays}
use Rattle.mdcc_given_back.proofs.rests.asked_of_rests.Goals as goal

pub returns-clause-promise : goal.returns-clause-promise
returns-clause-promise c = promise-stays

pub returns-clause-range : goal.returns-clause-range
returns-clause-range c = range-stays

pub returns-clause-ballot : goal.returns-clause-ballot
returns-clause-ballot c = ballot-stays

pub returns-clause-epoch : goal.returns-clause-epoch
returns-clause-epoch c = epoch-stays
