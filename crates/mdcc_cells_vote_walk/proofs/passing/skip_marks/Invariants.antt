use Rattle.std.proofs.Common.{◌≡◌}
use Rattle.mdcc_cells_vote_walk.specs.Passing.{after_marks}
use Rattle.mdcc_cells_vote_walk.proofs.passing.skip_marks.Given as goal

abbrev pub invariant-loop-left : goal.invariant-loop-left
invariant-loop-left l = after_marks l.left l.cursor ≡ after_marks l.count l.fn.cursor

abbrev pub decreases-loop-left : goal.decreases-loop-left
decreases-loop-left l = l.left
