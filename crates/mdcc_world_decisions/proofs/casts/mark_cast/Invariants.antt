use Rattle.std.proofs.Common.{◌≡◌, drop}
use Rattle.mdcc_world_decisions.specs.Casts.{mark_cast}
use Rattle.mdcc_world_decisions.proofs.casts.mark_cast.Given as goal

abbrev pub invariant-loop-cast : goal.invariant-loop-cast
invariant-loop-cast l =
    mark_cast (drop l.cast-index l.casts) l.key l.version l.ballot l.centre ≡ mark_cast l.casts l.key l.version l.ballot l.centre
