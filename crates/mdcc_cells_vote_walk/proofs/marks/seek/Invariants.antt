use Rattle.std.proofs.Common.{◌≡◌}
use Rattle.mdcc_cells_vote_walk.specs.Marks.{found_in}
use Rattle.mdcc_cells_vote_walk.proofs.marks.seek.Given as goal

abbrev pub invariant-loop-left : goal.invariant-loop-left
invariant-loop-left l = found_in l.tx l.left l.cursor ≡ found_in l.tx l.count l.fn.cursor

abbrev pub decreases-loop-left : goal.decreases-loop-left
decreases-loop-left l = l.left
