use Rattle.std.proofs.Common.{◌≡◌, length}
use Rattle.mdcc_cells_delta_walk.specs.Entries.{left_in}
use Rattle.mdcc_cells_delta_walk.specs.Loads.{with_entries}
use Rattle.mdcc_cells_delta_walk.proofs.loads.with_entries.Given as goal

abbrev pub invariant-loop-tx : goal.invariant-loop-tx
invariant-loop-tx g l =
    with_entries l.seen (g.V.VoidTest.void l.void) l.instance.0 l.instance.1 l.older l.load (left_in l.entries)
    ≡ with_entries l.seen (g.V.VoidTest.void l.void) l.instance.0 l.instance.1 l.older l.initial.load (left_in l.initial.entries)

abbrev pub decreases-loop-tx : goal.decreases-loop-tx
decreases-loop-tx g l = length (left_in l.entries)
