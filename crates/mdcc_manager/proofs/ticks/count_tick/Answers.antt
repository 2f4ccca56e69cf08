use Rattle.std.proofs.Common.{rules}
use Rattle.std.proofs.lemmas.List.Edits.{map_over_more}
use Rattle.mdcc_manager.specs.Ticks.{ticked_in}
use Rattle.mdcc_manager.proofs.ticks.count_tick.Goals as goal

pub loop-open-preserved : goal.loop-open-preserved
loop-open-preserved c quorums votes stands =
    let before = c.loop-open.invariant quorums votes stands in
    rw (c.tick.ensures quorums votes stands) (search (rules, before, map_over_more (ticked_in quorums votes)))
