use Rattle.std.proofs.Common.{suc, zero, ap, arith, ◌∙◌}
use Rattle.std.specs.Prelude.{drop}
use Rattle.mdcc_cells_delta_walk.specs.Passing.{after_counted_keys}
use Rattle.mdcc_cells_delta_walk.proofs.passing.pass_written.Goals as goal

pub loop-preserved : goal.loop-preserved
loop-preserved c = λ left is.
    ap (after_counted_keys left) (c.skip.ensures ∙ ap (drop 8) c.pass_counted.ensures)
    ∙ c.loop.invariant (suc left) (omega arith)

pub returns : goal.returns
returns c = c.loop.invariant zero (omega arith)
