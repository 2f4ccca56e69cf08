use Rattle.mdcc_cells_chains.proofs.Filtered.{walk-map}
use Rattle.mdcc_cells_chains.proofs.theorems.walks_by_key.Goals as goal

pub returns : goal.returns
returns g c = λ key_of passes xs. walk-map key_of passes xs
