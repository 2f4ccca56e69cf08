use Rattle.std.proofs.Common.{drop, length, sym, ap, ◌∙◌, arith}
use Rattle.mdcc_pool.proofs.Readings.{drop_at_most, left_length, left_on, reading_on}
use Rattle.mdcc_pool.proofs.cursor.Cursor.skip.Goals as goal

pub invariant_of-self : goal.invariant_of-self
invariant_of-self c =
    rw c.step-self-inside.ensures
    (reading_on c.self.inside.cells.now c.self.inside.at c.self.inside.within c.self.inside.left c.min-passed.result c.self.invariant (omega (arith, c.min-passed.ensures)))

pub returns : goal.returns
returns c =
    rw c.step-self-inside.ensures
    (left_on c.self.inside.cells.now c.self.inside.at c.self.inside.within c.self.inside.left c.min-passed.result c.self.invariant (omega (arith, c.min-passed.ensures))
    ∙ ap (drop c.min-passed.result) c.self.view_is
    ∙ drop_at_most c.args.count c.self.inside.left c.min-passed.result c.args.self.now c.min-passed.ensures
    (sym (ap length c.self.view_is) ∙ left_length c.self.inside.cells.now c.self.inside.at c.self.inside.within c.self.inside.left c.self.invariant))
