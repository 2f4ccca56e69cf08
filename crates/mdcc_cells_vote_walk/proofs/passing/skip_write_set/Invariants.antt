use Rattle.std.proofs.Common.{◌≡◌}
use Rattle.mdcc_cells_vote_walk.specs.Passing.{after_each}
use Rattle.mdcc_cells_vote_walk.proofs.passing.skip_write_set.Given as goal

abbrev pub invariant-loop-left : goal.invariant-loop-left
invariant-loop-left l = after_each l.left l.cursor ≡ after_each l.initial.left l.initial.cursor

abbrev pub decreases-loop-left : goal.decreases-loop-left
decreases-loop-left l = l.left
