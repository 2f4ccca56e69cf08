use Rattle.std.proofs.Common.{arith}
use Rattle.mdcc_def_simulation.specs.State.{counted_event}
use Rattle.mdcc_def_rules.specs.declared.node.Input.{Input}
use Rattle.mdcc_world.proofs.Happened.{free-refusal, on-ok, opened, refused-is, residual}
use Rattle.mdcc_theorem_worlds.proofs.Events.{sweep-is}
use Rattle.mdcc_theorem_worlds.specs.EventEffects.{at_centre, sweep_reported}
use Rattle.mdcc_world.proofs.world.World.sweep.Goals as goal

pub returns-in_err-at_centre-clause-happens : goal.returns-in_err-at_centre-clause-happens
returns-in_err-at_centre-clause-happens c w like =
    let a = c.args.centre in
    let fault = c.in_err-at_centre.field-0.0 in
    rw (residual c.from_residual.result fault c.from_residual.ensures.1)
    (refused-is _ (at_centre w a) (sweep_reported w a) fault (sweep-is w a) (c.in_err-at_centre.ensures.centre w like))

pub apply_timed-requires : goal.apply_timed-requires
apply_timed-requires c =
    let w = c.requires.0 in
    record { some = (counted_event w, Input.Sweep, c.in_ok-made.ensures.made w c.requires.1) }

pub returns-clause-happens : goal.returns-clause-happens
returns-clause-happens c w like =
    let a = c.args.centre in
    opened c.apply_timed.result _ _ _ _ (at_centre w a) (sweep_reported w a) (sweep-is w a)
    (c.in_ok-at_centre.ensures.centre w like) (c.apply_timed.ensures.happens (counted_event w) Input.Sweep (c.in_ok-made.ensures.made w like))

pub returns-clause-few : goal.returns-clause-few
returns-clause-few c =
    let made = c.run_timed.ensures.few in
    let same = c.apply_timed.ensures.events in
    let few = c.in_ok-at_centre.ensures.few in
    on-ok c.apply_timed.result (omega (made, same, few, arith))

pub returns-clause-kept : goal.returns-clause-kept
returns-clause-kept c = free-refusal c.apply_timed.result _ c.apply_timed.ensures.free
