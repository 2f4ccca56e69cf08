use Rattle.mdcc_world.proofs.Happened.{opened, refused-is, residual}
use Rattle.mdcc_theorem_worlds.proofs.Events.{restart-is}
use Rattle.mdcc_theorem_worlds.specs.EventEffects.{at_restart, restarted}
use Rattle.mdcc_world.proofs.world.World.restart.Goals as goal

pub returns-in_err-at_restart-clause-happens : goal.returns-in_err-at_restart-clause-happens
returns-in_err-at_restart-clause-happens c w like =
    let a = c.args.centre in
    let fault = c.in_err-at_restart.field-0.0 in
    rw (residual c.from_residual.result fault c.from_residual.ensures.1)
    (refused-is _ (at_restart w a) (restarted w a) fault (restart-is w a) (c.in_err-at_restart.ensures.centre w like))

pub returns-clause-happens : goal.returns-clause-happens
returns-clause-happens c w like =
    let a = c.args.centre in
    opened c.restart_at.result _ _ _ _ (at_restart w a) (restarted w a) (restart-is w a)
    (c.in_ok-at_restart.ensures.centre w like) (c.restart_at.ensures.happens w like)
