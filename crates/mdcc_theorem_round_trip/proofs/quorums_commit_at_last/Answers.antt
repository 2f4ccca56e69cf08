use Rattle.mdcc_theorem_round_trip.proofs.Deciding.{commits-at-last}
use Rattle.mdcc_theorem_round_trip.proofs.quorums_commit_at_last.Goals as goal

pub returns : goal.returns
returns c = commits-at-last
