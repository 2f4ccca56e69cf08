use Rattle.mdcc_struct.proofs.Votes.{forced_voted, voted_forced}
use Rattle.mdcc_struct.proofs.laws.forced_by_vote.Goals as goal

pub returns : goal.returns
returns c sizes reports classic agree tx mark = (forced_voted sizes reports classic tx mark, voted_forced sizes reports classic agree tx mark)
