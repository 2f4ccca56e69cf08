use Rattle.mdcc_cells_delta_walk.proofs.Walked.{crowded-by-deltas, executed-are-noted}
use Rattle.mdcc_cells_delta_walk.proofs.theorems.executed_are_noted.Goals as goal

pub returns : goal.returns
returns c = record { crowded = crowded-by-deltas; seen = executed-are-noted }
