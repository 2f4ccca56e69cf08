use Rattle.mdcc_given_back.proofs.FloorsLeft.{finished-stays, floor-stays, has_floor-stays}
use Rattle.mdcc_given_back.proofs.HeardLeft.{settled-by-rest, settled-stays, unfinished-stays}
use Rattle.mdcc_given_back.proofs.finished.finished_rests.Goals as goal

pub returns-clause-floor : goal.returns-clause-floor
returns-clause-floor c = floor-stays

pub returns-clause-has_floor : goal.returns-clause-has_floor
returns-clause-has_floor c = has_floor-stays

pub returns-clause-finished : goal.returns-clause-finished
returns-clause-finished c = finished-stays

pub returns-clause-unfinished : goal.returns-clause-unfinished
returns-clause-unfinished c = unfinished-stays

pub returns-clause-settled : goal.returns-clause-settled
returns-clause-settled c = settled-stays

pub returns-clause-by_rest : goal.returns-clause-by_rest
returns-clause-by_rest c = settled-by-rest
