use Rattle.std.proofs.Common.{Ok}
use Rattle.mdcc_def_simulation.specs.State.{counted_event}
use Rattle.mdcc_def_simulation.specs.Clients.{read_happened}
use Rattle.mdcc_world.proofs.Happened.{opened, refused-is, residual}
use Rattle.mdcc_theorem_worlds.proofs.Events.{read-is}
use Rattle.mdcc_theorem_worlds.specs.EventEffects.{at_centre}
use Rattle.mdcc_world.proofs.world.World.read.Goals as goal

pub returns-in_err-at_centre-clause-happens : goal.returns-in_err-at_centre-clause-happens
returns-in_err-at_centre-clause-happens c w like =
    let a = c.args.centre in
    let key = c.args.key.now in
    let fault = c.in_err-at_centre.field-0.0 in
    rw (residual c.from_residual.result fault c.from_residual.ensures.1)
    (refused-is _ (at_centre w a) (Ok (read_happened (counted_event w) a key)) fault (read-is w a key) (c.in_err-at_centre.ensures.centre w like))

pub returns-clause-happens : goal.returns-clause-happens
returns-clause-happens c w like =
    let a = c.args.centre in
    let key = c.args.key.now in
    opened {T = Unit {0}} (Ok tt) _ _ _ _ (at_centre w a) (Ok (read_happened (counted_event w) a key)) (read-is w a key)
    (c.in_ok-at_centre.ensures.centre w like) (c.in_ok-read_at.ensures.happened w like)
