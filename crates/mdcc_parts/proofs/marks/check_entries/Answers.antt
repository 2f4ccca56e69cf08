use Rattle.std.proofs.lemmas.Result.{err_from_is_err_and}
use Rattle.mdcc_parts.proofs.Elements.{passes, stops}
use Rattle.mdcc_parts.proofs.marks.check_entries.Goals as goal

pub returns-in_err-tx : goal.returns-in_err-tx
returns-in_err-tx c =
    let p = err_from_is_err_and c.from_residual.result c.from_residual.ensures.1 in
    rw (p.1, p.2) (stops c.loop.invariant c.loop-test.true c.in_err-tx.ensures)

pub loop-preserved : goal.loop-preserved
loop-preserved c = passes c.loop.invariant c.loop-test.true c.in_ok-tx.ensures
