use Rattle.std.proofs.Common.{length, reverse}
use Rattle.mdcc_cells_chains.specs.Keyed.{IsOnWay, shares_chain}
use Rattle.mdcc_cells_chains.proofs.Filtered.{rank}
use Rattle.mdcc_cells_chains.proofs.index.first_from.Given as goal

abbrev pub invariant-loop-at : goal.invariant-loop-at
invariant-loop-at g l = IsOnWay (shares_chain g.K.IndexKey.hash_code (length l.chains.heads) l.key) (g.K.IndexKey.same l.key) l.limit (reverse l.keys) l.at

abbrev pub decreases-loop-at : goal.decreases-loop-at
decreases-loop-at g l = rank l.at
