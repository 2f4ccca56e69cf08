use Rattle.mdcc_theorem_round_trip.proofs.Trips.{cells-suffice, roomy-commits}
use Rattle.mdcc_theorem_round_trip.proofs.cells_suffice.Goals as goal

pub returns-clause-undropped : goal.returns-clause-undropped
returns-clause-undropped c = cells-suffice

pub returns-clause-commits : goal.returns-clause-commits
returns-clause-commits c = roomy-commits
