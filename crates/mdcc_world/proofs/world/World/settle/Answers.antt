use Rattle.std.proofs.Common.{arith}
use Rattle.mdcc_world.proofs.CutShort.{cut-first, memory-any}
use Rattle.mdcc_world.proofs.world.World.settle.Goals as goal

pub returns-in_err-settle_begun-clause-cut : goal.returns-in_err-settle_begun-clause-cut
returns-in_err-settle_begun-clause-cut c w like =
    let few = c.settle_begun.ensures.few in
    let events = like.records.events in
    memory-any _ (cut-first c.settle_begun.new.self c.args.lines.now c.settle_begun.new.lines w c.args.listed.now (omega (arith, few, events)) c.in_err-settle_begun.ensures.untold)
