use Rattle.std.proofs.Common.{◌≡◌, length}
use Rattle.mdcc_cells_delta_walk.specs.Entries.{left_in}
use Rattle.mdcc_cells_delta_walk.specs.Steps.{value_in}
use Rattle.mdcc_cells_delta_walk.proofs.steps.value_in.Given as goal

abbrev pub invariant-loop-other : goal.invariant-loop-other
invariant-loop-other l = value_in l.tx (left_in l.entries) ≡ value_in l.tx (left_in l.initial.entries)

abbrev pub decreases-loop-other : goal.decreases-loop-other
decreases-loop-other l = length (left_in l.entries)
