use Rattle.std.proofs.Common.{◌+◌, ◌-◌, ℕ, suc, zero, ap, arith, sym, ◌∙◌, drop}
use Rattle.mdcc_cells_delta_walk.specs.Passing.{past_update}
use Rattle.mdcc_cells_delta_walk.specs.Bases.{item_in, written_in}
use Rattle.mdcc_cells_delta_walk.proofs.BasesRead.{written-pass, written-write}
use Rattle.mdcc_cells_delta_walk.proofs.bases.written_in.Goals as goal

pub returns-then-enter_write : goal.returns-then-enter_write
returns-then-enter_write c =
    let key = c.args.key.now in
    let left : ℕ = c.args.count - (c.loop.counter + 1) in
    c.item_in.ensures ∙ ap item_in (c.skip.ensures ∙ ap (drop 1) c.enter_write.ensures.after)
    ∙ sym (written-write key c.args.version left c.loop.cursor (sym c.enter_write.ensures.is_write ∙ c.if-enter_write.true))
    ∙ c.loop.invariant (suc left) (omega arith)

pub loop-preserved : goal.loop-preserved
loop-preserved c = λ left is.
    let key = c.args.key.now in
    ap (written_in key c.args.version left) (c.pass_rest.ensures ∙ ap past_update c.enter_write.ensures.after)
    ∙ sym (written-pass key c.args.version left c.loop.cursor (sym c.enter_write.ensures.is_write ∙ c.if-enter_write.false))
    ∙ c.loop.invariant (suc left) (omega arith)

pub returns : goal.returns
returns c = c.loop.invariant zero (omega arith)
