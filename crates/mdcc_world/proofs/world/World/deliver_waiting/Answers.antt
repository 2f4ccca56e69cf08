use Rattle.std.proofs.Common.{Ok}
use Rattle.mdcc_world.proofs.Gathered.{gathered}
use Rattle.mdcc_theorem_worlds.specs.DeliveryProgress.{after_numbered_message}
use Rattle.mdcc_world.proofs.world.World.deliver_waiting.Goals as goal

pub returns-clause-happens : goal.returns-clause-happens
returns-clause-happens c w like =
    gathered (Ok tt) c.apply_message.new.self c.new-reported.result c.apply_message.new.lines c.args.lines.now c.append.new.lines (after_numbered_message w c.args.number)
    c.new-reported.ensures c.in_ok-append.ensures.ok (c.in_ok-apply_message.ensures.happens w like)
