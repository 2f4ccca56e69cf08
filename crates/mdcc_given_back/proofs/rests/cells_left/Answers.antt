use Rattle.mdcc_given_back.proofs.Left.{cells-left}
use Rattle.mdcc_given_back.proofs.rests.cells_left.Goals as goal

pub returns : goal.returns
returns c = cells-left
