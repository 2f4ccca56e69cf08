use Rattle.mdcc_given_back.proofs.OriginsLeft.{origins-stay, sweep-stays}
use Rattle.mdcc_given_back.proofs.finished.origin_rests.Goals as goal

pub returns-clause-origins : goal.returns-clause-origins
returns-clause-origins c = origins-stay

pub returns-clause-sweep : goal.returns-clause-sweep
returns-clause-sweep c = sweep-stays
