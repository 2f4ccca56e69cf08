use Rattle.mdcc_cells_chains.proofs.Filtered.{below-under}
use Rattle.mdcc_cells_chains.proofs.index.Index.next.Goals as goal

pub returns-clause-lower : goal.returns-clause-lower
returns-clause-lower g c = rw c.first_from.ensures (below-under c.args.index _)
