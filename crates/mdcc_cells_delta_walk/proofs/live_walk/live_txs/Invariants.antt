use Rattle.std.proofs.Common.{◌≡◌, ◌++◌, length}
use Rattle.mdcc_struct.specs.Maps.{txs_of}
use Rattle.mdcc_cells_delta_walk.specs.LiveWalks.{left_live}
use Rattle.mdcc_cells_delta_walk.proofs.live_walk.live_txs.Given as goal

abbrev pub invariant-loop-tx : goal.invariant-loop-tx
invariant-loop-tx l = l.txs ++ txs_of (left_live l.live) ≡ txs_of (left_live l.initial.live)

abbrev pub decreases-loop-tx : goal.decreases-loop-tx
decreases-loop-tx l = length (left_live l.live)
