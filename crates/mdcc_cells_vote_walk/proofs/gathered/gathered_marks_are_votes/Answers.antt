use Rattle.mdcc_cells_vote_walk.proofs.GatheredVotes.{gathered-votes}
use Rattle.mdcc_cells_vote_walk.proofs.gathered.gathered_marks_are_votes.Goals as goal

pub returns : goal.returns
returns c = gathered-votes
