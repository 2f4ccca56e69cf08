use Rattle.mdcc_cells_chains.proofs.Filtered.{walk-whole, walk-found, walk-next, walk-none}
use Rattle.mdcc_cells_chains.proofs.theorems.walks_are_filtered.Goals as goal

pub returns-clause-whole : goal.returns-clause-whole
returns-clause-whole g c = λ passes xs. walk-whole passes xs

pub returns-clause-found : goal.returns-clause-found
returns-clause-found g c = λ passes xs i first. walk-found passes xs i first

pub returns-clause-next : goal.returns-clause-next
returns-clause-next g c = λ passes xs i. walk-next passes i xs

pub returns-clause-end : goal.returns-clause-end
returns-clause-end g c = λ passes xs none. walk-none passes xs none
