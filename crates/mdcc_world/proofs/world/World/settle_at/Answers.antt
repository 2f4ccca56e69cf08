use Rattle.mdcc_world.proofs.CutShort.{memory-any}
use Rattle.mdcc_world.proofs.Settled.{ends-short}
use Rattle.mdcc_world.proofs.world.World.settle_at.Goals as goal

pub returns-in_err-push-clause-cut : goal.returns-in_err-push-clause-cut
returns-in_err-push-clause-cut c w before few happened =
    memory-any c.from_residual-in_err-push.result
    (ends-short c.settle_for.new.self before c.settle_for.new.lines c.push.new.self w c.args.listed.now c.in_ok-deliveries.deliveries
    (c.in_ok-deliveries.ensures.ends w before few happened) c.in_err-push.ensures.err)
