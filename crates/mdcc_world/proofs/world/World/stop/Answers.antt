use Rattle.std.proofs.Common.{Ok}
use Rattle.mdcc_def_simulation.specs.State.{counted_event}
use Rattle.mdcc_def_simulation.specs.Centres.{stop_happened}
use Rattle.mdcc_world.proofs.Happened.{opened, refused-is, residual}
use Rattle.mdcc_theorem_worlds.proofs.Events.{stop-is}
use Rattle.mdcc_theorem_worlds.specs.EventEffects.{at_centre}
use Rattle.mdcc_world.proofs.world.World.stop.Goals as goal

pub returns-in_err-at_centre-clause-happens : goal.returns-in_err-at_centre-clause-happens
returns-in_err-at_centre-clause-happens c w like =
    let a = c.args.centre in
    let fault = c.in_err-at_centre.field-0.0 in
    rw (residual c.from_residual.result fault c.from_residual.ensures.1)
    (refused-is _ (at_centre w a) (Ok (stop_happened (counted_event w) a c.args.call c.args.image)) fault (stop-is w a c.args.call c.args.image) (c.in_err-at_centre.ensures.centre w like))

pub returns-clause-happens : goal.returns-clause-happens
returns-clause-happens c w like =
    let a = c.args.centre in
    opened {T = Unit {0}} (Ok tt) _ _ _ _ (at_centre w a) (Ok (stop_happened (counted_event w) a c.args.call c.args.image)) (stop-is w a c.args.call c.args.image)
    (c.in_ok-at_centre.ensures.centre w like) (c.in_ok-arm.ensures.happened w like)
