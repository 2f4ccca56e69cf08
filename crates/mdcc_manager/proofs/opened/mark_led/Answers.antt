use Rattle.std.proofs.Common.{rules}
use Rattle.std.proofs.lemmas.List.Edits.{map_over_more}
use Rattle.mdcc_manager.specs.Opened.{led_in}
use Rattle.mdcc_manager.proofs.opened.mark_led.Goals as goal

pub loop-open-preserved : goal.loop-open-preserved
loop-open-preserved c = rw c.mark_led.ensures (search (rules, map_over_more (led_in c.args.tx.now c.args.key.now)))
