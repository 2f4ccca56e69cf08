use Rattle.std.proofs.Common.{rules}
use Rattle.std.proofs.lemmas.List.Edits.{map_over_more}
use Rattle.mdcc_manager.specs.Ticks.{led_unlearned}
use Rattle.mdcc_manager.proofs.opened.OpenChoices.mark_unlearned.Goals as goal

pub loop-open-preserved : goal.loop-open-preserved
loop-open-preserved c quorums votes stands =
    let before = c.loop-open.invariant quorums votes stands in
    rw (c.mark_unlearned.ensures quorums votes stands) (search (rules, before, map_over_more (led_unlearned quorums votes c.args.tx.now)))
