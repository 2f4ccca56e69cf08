use Rattle.mdcc_struct.proofs.Inclusion.{meet-left, meet-right, meet-greatest}
use Rattle.mdcc_struct.proofs.laws.meet_is_greatest.Goals as goal

pub returns-clause-extended : goal.returns-clause-extended
returns-clause-extended c a b up = (meet-left a b up, meet-right a b up)

pub returns-clause-greatest : goal.returns-clause-greatest
returns-clause-greatest c = meet-greatest
