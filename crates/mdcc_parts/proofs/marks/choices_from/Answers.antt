use Rattle.std.proofs.lemmas.Result.{err_from_is_err_and}
use Rattle.mdcc_parts.proofs.Elements.{goes_on, ends}
use Rattle.mdcc_parts.proofs.marks.choices_from.Goals as goal

pub returns-in_err-choice : goal.returns-in_err-choice
returns-in_err-choice c =
    let p = err_from_is_err_and c.from_residual.result c.from_residual.ensures.1 in
    rw (p.1, p.2) (ends c.loop.invariant c.loop-test.true c.in_err-choice.ensures)

pub loop-preserved : goal.loop-preserved
loop-preserved c = rw c.push.ensures (goes_on c.loop.invariant c.loop-test.true c.in_ok-choice.ensures)
