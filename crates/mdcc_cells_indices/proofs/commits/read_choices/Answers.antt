use Rattle.std.proofs.Common.{false, sym, subst, refl, ◌∙◌}
use Rattle.mdcc_parts.proofs.Elements.{ends, goes_on}
use Rattle.mdcc_cells_indices.specs.Heard.{AreRead}
use Rattle.mdcc_cells_indices.proofs.commits.read_choices.Goals as goal

pub returns-in-Err : goal.returns-in-Err
returns-in-Err c =
    subst (λ total. AreRead total false c.loop.choices) (ends c.loop.invariant c.loop-test.true (sym c.in-Err.is ∙ c.read_choice_behind.ensures)) refl

pub loop-preserved : goal.loop-preserved
loop-preserved c = rw c.push.ensures (goes_on c.loop.invariant c.loop-test.true (sym c.in-Ok.is ∙ c.read_choice_behind.ensures))
