use Rattle.std.proofs.Common.{◌-◌, ◌∙◌, Bool, List, Option, ap, arith, false, ℕ}
use Rattle.std.specs.Prelude.{set}
use Rattle.mdcc_base.specs.declared.outside.Image.{Image}
use Rattle.mdcc_def_ledger.specs.Ledger.{facts_of}
use Rattle.mdcc_def_simulation.specs.Limits.{passed_log_limit}
use Rattle.mdcc_def_simulation.specs.State.{centre_at, is_up_at}
use Rattle.mdcc_world.proofs.Happened.{residual, unlimited}
use Rattle.mdcc_world.proofs.Limits.{fact-may, log-there, step-formed, step-measures}
use Rattle.mdcc_world.proofs.StoppedStep.{step-stops, stop-refused, struck-due}
use Rattle.mdcc_world.proofs.world.World.stop_step.Goals as goal

pub at_log_limit-requires-clause-within : goal.at_log_limit-requires-clause-within
at_log_limit-requires-clause-within c =
    let made = c.requires.some.2 in
    log-there c.args.self.now c.requires.some.0 c.args.centre made.before.centre made.before.logs

pub at_log_limit-requires-clause-formed : goal.at_log_limit-requires-clause-formed
at_log_limit-requires-clause-formed c =
    step-formed c.args.self.now c.requires.some.0 c.args.centre c.requires.some.1 c.args.step.now c.requires.some.2 c.args.fact.now c.requires.fact

pub returns-in_err-at_log_limit-clause-happens : goal.returns-in_err-at_log_limit-clause-happens
returns-in_err-at_log_limit-clause-happens c w input made =
    let world = c.args.self.now in
    let a = c.args.centre in
    let step = c.args.step.now in
    let fault = c.in_err-at_log_limit.field-0.0 in
    rw (residual c.from_residual.result fault c.from_residual.ensures.1)
    (stop-refused world w a input step made c.args.fact.now c.requires.fact c.args.stop.0 c.args.stop.1 (c.requires.strikes w input made) fault
    (c.in_err-at_log_limit.ensures.limit w (step-measures world w a input step made)))

pub stop_append-requires-clause-within : goal.stop_append-requires-clause-within
stop_append-requires-clause-within c =
    let made = c.requires.some.2 in
    log-there c.args.self.now c.requires.some.0 c.args.centre made.before.centre made.before.logs

pub stop_append-requires-clause-framed : goal.stop_append-requires-clause-framed
stop_append-requires-clause-framed c =
    fact-may c.args.self.now c.requires.some.0 c.args.centre c.requires.some.1 c.args.step.now c.requires.some.2 c.args.fact.now c.requires.fact

pub stop_append-requires-clause-due : goal.stop_append-requires-clause-due
stop_append-requires-clause-due c late =
    let w = c.requires.some.0 in
    let a = c.args.centre in
    let made = c.requires.some.2 in
    rw (made.before.tails a made.before.centre)
    (struck-due (centre_at w a).tail (centre_at w a).stop c.args.stop.0 c.args.stop.1 (c.requires.strikes w c.requires.some.1 made) late)

pub returns-clause-happens : goal.returns-clause-happens
returns-clause-happens c w input made =
    let world = c.args.self.now in
    let a = c.args.centre in
    let step = c.args.step.now in
    let fact = c.args.fact.now in
    let new = c.stop_append.new.self in
    let stopped = c.in_ok-stop_append.ensures in
    let within = unlimited (passed_log_limit w a fact) (c.in_ok-at_log_limit.ensures.limit w (step-measures world w a input step made)) in
    let rest = c.stop_append.ensures.rest
    ∙ ap (λ (ups : List Bool). record world { up = ups; stops = new.stops; logs = new.logs; decisions = new.decisions }) c.stop_append.ensures.down
    ∙ ap (λ (stops : List (Option (ℕ × Image))). record world { up = set world.up (a - 1) false; stops = stops; logs = new.logs; decisions = new.decisions }) c.stop_append.ensures.stops in
    step-stops world w a input step made fact c.requires.fact c.args.stop.0 c.args.stop.1 (c.requires.strikes w input made) new rest (omega arith) (omega arith) (omega arith)
    c.args.lines.now c.stop_append.new.lines within (stopped.logs w.cluster.quorums.centres (is_up_at w) (facts_of w.ledger) made.before.logs made.before.up)
    (stopped.tail w.cluster.quorums.centres (is_up_at w) (facts_of w.ledger) made.before.logs made.before.up) stopped.ledger stopped.lines
