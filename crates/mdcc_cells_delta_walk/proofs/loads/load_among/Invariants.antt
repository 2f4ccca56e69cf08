use Rattle.std.proofs.Common.{◌≡◌, length}
use Rattle.mdcc_struct.specs.Maps.{txs_of}
use Rattle.mdcc_cells_delta_walk.specs.LiveWalks.{left_live, load_among}
use Rattle.mdcc_cells_delta_walk.proofs.loads.load_among.Given as goal

abbrev pub invariant-loop-tx : goal.invariant-loop-tx
invariant-loop-tx g l = record {
  later : l.later ≡ txs_of (left_live l.live);
  sum : load_among l.seen (g.V.VoidTest.void l.void) l.load (left_live l.live) ≡ load_among l.seen (g.V.VoidTest.void l.void) l.initial.load (left_live l.initial.live);
}

abbrev pub decreases-loop-tx : goal.decreases-loop-tx
decreases-loop-tx g l = length (left_live l.live)
