use Rattle.mdcc_cells_marked.proofs.InCells.{marks-in_cells}
use Rattle.mdcc_cells_marked.proofs.rooms.marks_in_cells.Goals as goal

pub returns : goal.returns
returns c = marks-in_cells
