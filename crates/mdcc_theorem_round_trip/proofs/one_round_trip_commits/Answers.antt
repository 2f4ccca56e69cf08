use Rattle.mdcc_theorem_round_trip.proofs.Trips.{ends-with-commit, votes-sent}
use Rattle.mdcc_theorem_round_trip.proofs.one_round_trip_commits.Goals as goal

pub returns-clause-commits : goal.returns-clause-commits
returns-clause-commits c = ends-with-commit

pub returns-clause-votes : goal.returns-clause-votes
returns-clause-votes c = votes-sent
