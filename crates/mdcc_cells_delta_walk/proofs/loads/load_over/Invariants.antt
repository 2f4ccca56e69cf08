use Rattle.std.proofs.Common.{◌≡◌, length}
use Rattle.mdcc_cells_delta_walk.specs.Loads.{load_over}
use Rattle.mdcc_cells_delta_walk.proofs.loads.load_over.Given as goal

abbrev pub invariant-loop-cursor : goal.invariant-loop-cursor
invariant-loop-cursor g l =
    load_over l.seen (g.V.VoidTest.void l.void) l.instance.0 l.instance.1 l.load l.walk
    ≡ load_over l.seen (g.V.VoidTest.void l.void) l.instance.0 l.instance.1 l.initial.load l.initial.walk

abbrev pub decreases-loop-cursor : goal.decreases-loop-cursor
decreases-loop-cursor g l = length l.walk
