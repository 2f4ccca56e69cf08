use Rattle.std.proofs.Common.{◌≡◌, is_some, length}
use Rattle.mdcc_struct.specs.Maps.{value_of}
use Rattle.mdcc_cells_delta_walk.specs.Entries.{left_in}
use Rattle.mdcc_cells_delta_walk.proofs.steps.has_entry.Given as goal

abbrev pub invariant-loop-other : goal.invariant-loop-other
invariant-loop-other l = is_some (value_of (left_in l.entries) l.tx) ≡ is_some (value_of (left_in l.initial.entries) l.tx)

abbrev pub decreases-loop-other : goal.decreases-loop-other
decreases-loop-other l = length (left_in l.entries)
