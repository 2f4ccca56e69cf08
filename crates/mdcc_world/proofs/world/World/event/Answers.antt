use Rattle.mdcc_world.proofs.Ending.{happened-err, happened-ok}
use Rattle.mdcc_world.proofs.Left.{left-stands}
use Rattle.mdcc_world.proofs.world.World.event.Goals as goal

pub returns-clause-ok : goal.returns-clause-ok
returns-clause-ok c w stands = happened-ok c.happen.result _ _ _ _ (c.happen.ensures.happens w stands.like) c.happen.ensures.few

pub returns-clause-err : goal.returns-clause-err
returns-clause-err c w stands = happened-err c.happen.result _ _ _ _ (c.happen.ensures.happens w stands.like)

pub returns-clause-stands : goal.returns-clause-stands
returns-clause-stands c w stands = left-stands c.happen.result _ _ _ _ (c.happen.ensures.left w stands.like) c.happen.ensures.few_left
