use Rattle.std.proofs.Common.{length}
use Rattle.mdcc_cells_delta_walk.specs.LiveWalks.{IsFinding, left_live}
use Rattle.mdcc_cells_delta_walk.proofs.live_walk.LiveWalk.find.Given as goal

abbrev pub invariant-loop-found : goal.invariant-loop-found
invariant-loop-found l = IsFinding (left_live l.fn.self) l.found l.self

abbrev pub decreases-loop-found : goal.decreases-loop-found
decreases-loop-found l = length l.self.walk
