use Rattle.mdcc_cells_chains.proofs.Filtered.{IsLeading, rank}
use Rattle.mdcc_cells_chains.proofs.index.Index.oldest.Given as goal

abbrev pub invariant-loop-at : goal.invariant-loop-at
invariant-loop-at g l = IsLeading (g.K.IndexKey.same l.key) l.self.keys l.at l.oldest

abbrev pub decreases-loop-at : goal.decreases-loop-at
decreases-loop-at g l = rank l.at
