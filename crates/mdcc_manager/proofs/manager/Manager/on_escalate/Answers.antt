use Rattle.mdcc_manager.proofs.Acts.{escalate-awaited, escalate-closed}
use Rattle.mdcc_manager.proofs.manager.Manager.on_escalate.Goals as goal

pub returns-then-not-is_awaited-clause-left : goal.returns-then-not-is_awaited-clause-left
returns-then-not-is_awaited-clause-left c me epoch managing stands =
    rw (escalate-closed c.args.cluster.now.quorums managing c.args.from c.args.tx c.args.key.now c.args.cause (c.if-not-is_awaited.ensures me epoch c.args.cluster.now.quorums managing stands)) stands

pub returns-clause-act : goal.returns-clause-act
returns-clause-act c me epoch managing stands =
    rw (escalate-awaited c.args.cluster.now.quorums managing c.args.from c.args.tx c.args.key.now c.args.cause (c.if-not-is_awaited.ensures me epoch c.args.cluster.now.quorums managing stands))
    (c.act_on_cause.ensures.act me epoch managing stands)

pub returns-clause-left : goal.returns-clause-left
returns-clause-left c me epoch managing stands =
    rw (escalate-awaited c.args.cluster.now.quorums managing c.args.from c.args.tx c.args.key.now c.args.cause (c.if-not-is_awaited.ensures me epoch c.args.cluster.now.quorums managing stands))
    (c.act_on_cause.ensures.left me epoch managing stands)
