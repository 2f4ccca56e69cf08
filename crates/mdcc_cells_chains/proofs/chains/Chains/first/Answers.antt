use Rattle.std.proofs.Common.{length}
use Rattle.mdcc_cells_chains.proofs.chains.Chains.first.Goals as goal

pub returns-clause-within : goal.returns-clause-within
returns-clause-within c = rw (← c.self.view_is, c.get.ensures) (c.self.invariant.heads_used c.args.chain)
