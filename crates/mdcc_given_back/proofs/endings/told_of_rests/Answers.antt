use Rattle.mdcc_given_back.proofs.EndingsLeft.{heard-of-rest, idle-of-heard}
use Rattle.mdcc_given_back.proofs.Untold.{unheard-by-rest, unvoted-by-rest}
use Rattle.mdcc_given_back.proofs.endings.told_of_rests.Goals as goal

pub returns-clause-heard : goal.returns-clause-heard
returns-clause-heard c = heard-of-rest

pub returns-clause-idle : goal.returns-clause-idle
returns-clause-idle c = idle-of-heard

pub returns-clause-unheard : goal.returns-clause-unheard
returns-clause-unheard c = unheard-by-rest

pub returns-clause-unvoted : goal.returns-clause-unvoted
returns-clause-unvoted c = unvoted-by-rest
