use Rattle.std.proofs.Common.{◌≡◌, length}
use Rattle.std.specs.List.{fold}
use Rattle.mdcc_cells_delta_walk.specs.Steps.{encoding_noted}
use Rattle.mdcc_cells_delta_walk.proofs.crowding.note_walk.Given as goal

abbrev pub invariant-loop-cursor : goal.invariant-loop-cursor
invariant-loop-cursor l = fold encoding_noted l.deltas l.walk ≡ fold encoding_noted l.initial.deltas l.initial.walk

abbrev pub decreases-loop-cursor : goal.decreases-loop-cursor
decreases-loop-cursor l = length l.walk
