use Rattle.std.proofs.Common.{refl}
use Rattle.mdcc_def_simulation.specs.State.{counted_event}
use Rattle.mdcc_def_rules.specs.declared.node.Input.{Input}
use Rattle.mdcc_world.proofs.Happened.{free-refusal, opened, refused-is, residual}
use Rattle.mdcc_theorem_worlds.specs.BeginEffects.{after_begin_parts}
use Rattle.mdcc_theorem_worlds.specs.EventEffects.{at_limit, if_open}
use Rattle.mdcc_world.proofs.world.World.begin_transaction.Goals as goal

pub returns-in_err-at_limit-clause-happens : goal.returns-in_err-at_limit-clause-happens
returns-in_err-at_limit-clause-happens c w like =
    let r = after_begin_parts w c.args.centre c.args.transaction in
    let fault = c.in_err-at_limit.field-0.0 in
    rw (residual c.from_residual.result fault c.from_residual.ensures.1)
    (refused-is (if_open (at_limit w) r) (at_limit w) r fault refl (c.in_err-at_limit.ensures.limit w like))

pub apply_begin-requires : goal.apply_begin-requires
apply_begin-requires c =
    let w = c.requires.like.0 in
    record { some = (counted_event w, Input.Begin c.args.transaction, c.in_ok-run_begin.ensures.made w c.requires.like.1) }

pub returns-clause-happens : goal.returns-clause-happens
returns-clause-happens c w like =
    let r = after_begin_parts w c.args.centre c.args.transaction in
    opened c.apply_begin.result _ _ _ (if_open (at_limit w) r) (at_limit w) r refl (c.in_ok-at_limit.ensures.limit w like)
    (c.apply_begin.ensures.happens (counted_event w) (Input.Begin c.args.transaction) (c.in_ok-run_begin.ensures.made w like))

pub returns-clause-kept : goal.returns-clause-kept
returns-clause-kept c = free-refusal c.apply_begin.result _ c.apply_begin.ensures.free
