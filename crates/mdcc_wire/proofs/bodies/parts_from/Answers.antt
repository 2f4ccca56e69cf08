use Rattle.std.proofs.lemmas.Result.{err_from_is_err_and}
use Rattle.mdcc_parts.proofs.Elements.{goes_on, ends}
use Rattle.mdcc_wire.proofs.bodies.parts_from.Goals as goal

pub returns-in_err-next : goal.returns-in_err-next
returns-in_err-next c =
    let p = err_from_is_err_and c.from_residual.result c.from_residual.ensures.1 in
    rw (p.1, p.2) (ends c.loop.invariant c.loop-test.true c.in_err-next.ensures)

pub loop-preserved : goal.loop-preserved
loop-preserved c = rw c.push.ensures (goes_on c.loop.invariant c.loop-test.true c.in_ok-next.ensures)
