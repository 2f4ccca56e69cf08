use Rattle.mdcc_cells_delta_walk.proofs.WalksOn.{encodings-found}
use Rattle.mdcc_cells_delta_walk.proofs.theorems.encodings_are_found.Goals as goal

pub returns : goal.returns
returns c = encodings-found
