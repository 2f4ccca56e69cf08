use Rattle.std.proofs.lemmas.Result.{err_from_is_err_and}
use Rattle.mdcc_parts.proofs.Elements.{goes_on, ends, unless_memory}
use Rattle.mdcc_parts.proofs.Pushed.{MayFollow-next}
use Rattle.mdcc_parts.proofs.marks.entries_from.Goals as goal

pub returns-in_err-tx : goal.returns-in_err-tx
returns-in_err-tx c =
    let p = err_from_is_err_and c.from_residual-in_err-tx.result c.from_residual-in_err-tx.ensures.1 in
    rw (p.1, p.2) (unless_memory _ _ (ends c.loop.invariant.read c.loop-test.true c.in_err-tx.ensures.exact))

pub push_mark-requires : goal.push_mark-requires
push_mark-requires c = c.loop.invariant.follows (c.in_ok-tx.tx, c.in_ok-tx.mark) c.in_ok-tx.ensures.follows

pub loop-preserved : goal.loop-preserved
loop-preserved c = record {
  read = rw c.in_ok-push_mark.ensures.ok (goes_on c.loop.invariant.read c.loop-test.true c.in_ok-tx.ensures.exact);
  follows = rw c.in_ok-push_mark.ensures.ok
      (MayFollow-next c.loop.options c.loop.last (c.in_ok-tx.tx, c.in_ok-tx.mark) c.loop.invariant.follows c.in_ok-tx.ensures.follows);
}
