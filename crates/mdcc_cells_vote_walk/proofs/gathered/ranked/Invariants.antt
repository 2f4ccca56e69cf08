use Rattle.std.proofs.Common.{◌≡◌, ◌++◌, length}
use Rattle.mdcc_cells_vote_walk.specs.Gathered.{ranked}
use Rattle.mdcc_cells_vote_walk.proofs.gathered.ranked.Given as goal

abbrev pub invariant-loop-rest : goal.invariant-loop-rest
invariant-loop-rest l = l.order.items ++ ranked l.rest ≡ ranked l.places

abbrev pub decreases-loop-rest : goal.decreases-loop-rest
decreases-loop-rest l = length l.rest
