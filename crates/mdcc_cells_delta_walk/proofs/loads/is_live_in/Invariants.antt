use Rattle.std.proofs.Common.{◌≡◌, length}
use Rattle.std.specs.List.{list_any}
use Rattle.mdcc_cells_delta_walk.specs.Steps.{has_live}
use Rattle.mdcc_cells_delta_walk.proofs.loads.is_live_in.Given as goal

abbrev pub invariant-loop-cursor : goal.invariant-loop-cursor
invariant-loop-cursor l = list_any (has_live l.instance.0 l.instance.1 l.tx) l.walk ≡ list_any (has_live l.instance.0 l.instance.1 l.tx) l.initial.walk

abbrev pub decreases-loop-cursor : goal.decreases-loop-cursor
decreases-loop-cursor l = length l.walk
