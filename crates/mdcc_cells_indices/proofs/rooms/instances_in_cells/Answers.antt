use Rattle.mdcc_cells_indices.proofs.InCells.{instances-in_cells}
use Rattle.mdcc_cells_indices.proofs.rooms.instances_in_cells.Goals as goal

pub returns : goal.returns
returns c = instances-in_cells
