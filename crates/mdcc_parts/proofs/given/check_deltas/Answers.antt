use Rattle.std.proofs.Common.{ap}
use Rattle.std.proofs.lemmas.Result.{err_from_is_err_and}
use Rattle.mdcc_parts.specs.Reads.{name_and_end}
use Rattle.mdcc_parts.proofs.Elements.{passes, stops}
use Rattle.mdcc_parts.proofs.given.check_deltas.Goals as goal

pub returns-in_err-delta : goal.returns-in_err-delta
returns-in_err-delta c =
    let p = err_from_is_err_and c.from_residual.result c.from_residual.ensures.1 in
    rw (p.1, p.2) (stops c.loop.invariant c.loop-test.true (ap (name_and_end (λ delta. delta.tx)) c.in_err-delta.ensures))

pub loop-preserved : goal.loop-preserved
loop-preserved c = passes c.loop.invariant c.loop-test.true (ap (name_and_end (λ delta. delta.tx)) c.in_ok-delta.ensures)
