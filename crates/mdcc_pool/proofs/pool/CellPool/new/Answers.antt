use Rattle.std.proofs.Common.{ap, ◌∙◌}
use Rattle.mdcc_pool.specs.Pool.{held_from}
use Rattle.mdcc_pool.proofs.Fresh.{kept-fresh, none-held}
use Rattle.mdcc_pool.proofs.pool.CellPool.new.Goals as goal

pub invariant_of-result : goal.invariant_of-result
invariant_of-result c = rw (c.in_ok-new.ensures, c.in_ok-new-2.ensures) (kept-fresh c.args.cells c.ranges.cells.fits)

pub returns : goal.returns
returns c =
    ap (λ held. record { spare = c.args.cells; held = held })
    (ap (held_from c.in_ok-new.field-0 0) c.in_ok-new-2.ensures ∙ none-held c.in_ok-new.field-0 0 c.args.cells)
