use Rattle.mdcc_cells_delta_walk.proofs.Walked.{amounts-are-folded}
use Rattle.mdcc_cells_delta_walk.proofs.theorems.steps_are_folded.Goals as goal

pub returns : goal.returns
returns c = record { amounts = amounts-are-folded }
