use Rattle.std.proofs.Common.{◌≡◌}
use Rattle.mdcc_cells_delta_walk.specs.Entries.{left_in}
use Rattle.mdcc_cells_delta_walk.proofs.entries.Entries.find.Given as goal

abbrev pub invariant-loop-self : goal.invariant-loop-self
invariant-loop-self l = left_in l.self ≡ left_in l.initial.self

abbrev pub decreases-loop-self : goal.decreases-loop-self
decreases-loop-self l = l.self.left
