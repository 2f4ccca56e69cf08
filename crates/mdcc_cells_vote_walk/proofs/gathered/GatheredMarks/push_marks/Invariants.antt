use Rattle.std.proofs.Common.{◌≡◌, ◌++◌}
use Rattle.mdcc_cells_vote_walk.specs.Gathered.{marks_read}
use Rattle.mdcc_cells_vote_walk.proofs.gathered.GatheredMarks.push_marks.Given as goal

abbrev pub invariant-loop-left : goal.invariant-loop-left
invariant-loop-left l = l.self ++ marks_read l.left l.cursor ≡ l.initial.self ++ marks_read l.count l.initial.cursor

abbrev pub decreases-loop-left : goal.decreases-loop-left
decreases-loop-left l = l.left
