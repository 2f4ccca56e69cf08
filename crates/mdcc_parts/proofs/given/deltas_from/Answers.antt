use Rattle.std.proofs.lemmas.Result.{err_from_is_err_and}
use Rattle.mdcc_parts.proofs.Elements.{goes_on, ends, unless_memory}
use Rattle.mdcc_parts.proofs.given.deltas_from.Goals as goal

pub returns-in_err-delta : goal.returns-in_err-delta
returns-in_err-delta c =
    let p = err_from_is_err_and c.from_residual.result c.from_residual.ensures.1 in
    rw (p.1, p.2) (unless_memory _ _ (ends c.loop.invariant c.loop-test.true c.in_err-delta.ensures))

pub loop-preserved : goal.loop-preserved
loop-preserved c = rw c.in_ok-push.ensures.ok (goes_on c.loop.invariant c.loop-test.true c.in_ok-delta.ensures)
