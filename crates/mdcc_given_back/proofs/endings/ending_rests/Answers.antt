use Rattle.mdcc_given_back.proofs.EndingsLeft.{ended-stays, kept-by-shown, kept-stays}
use Rattle.mdcc_given_back.proofs.HeardLeft.{heard-stays, kept-by-rest}
use Rattle.mdcc_given_back.proofs.endings.ending_rests.Goals as goal

pub returns-clause-heard : goal.returns-clause-heard
returns-clause-heard c = heard-stays

pub returns-clause-by_rest : goal.returns-clause-by_rest
returns-clause-by_rest c = kept-by-rest

pub returns-clause-by_shown : goal.returns-clause-by_shown
returns-clause-by_shown c = kept-by-shown

pub returns-clause-kept : goal.returns-clause-kept
returns-clause-kept c = kept-stays

pub returns-clause-ended : goal.returns-clause-ended
returns-clause-ended c = ended-stays
