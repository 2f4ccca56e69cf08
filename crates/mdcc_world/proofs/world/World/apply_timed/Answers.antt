use Rattle.std.proofs.Common.{◌∷◌, ◌∙◌, [], Ok, List, ap, subst}
use Rattle.mdcc_def_simulation.specs.Limits.{input_limited, with_lines}
use Rattle.mdcc_def_simulation.specs.AppliedSteps.{step_at}
use Rattle.mdcc_def_language.specs.declared.lines.Line.{Line}
use Rattle.mdcc_world.proofs.Happened.{memory-is-free, next-is, residual, reported-happens, reported-refused, reported-result}
use Rattle.mdcc_world.specs.Represents.{Happens}
use Rattle.mdcc_world.specs.Timed.{timed_line, timed_lines}
use Rattle.mdcc_world.proofs.world.World.apply_timed.Goals as goal

pub returns-in_err-apply_run-clause-happens : goal.returns-in_err-apply_run-clause-happens
returns-in_err-apply_run-clause-happens c w input made =
    let a = c.args.centre in
    let fault = c.in_err-apply_run.field-0.0 in
    rw (residual c.from_residual.result fault c.from_residual.ensures.1)
    (reported-refused fault (timed_lines c.args.sweeps a) (input_limited w a (step_at w a input)) (c.in_err-apply_run.ensures.happens w input made))

pub returns-clause-happens : goal.returns-clause-happens
returns-clause-happens c w input made =
    let a = c.args.centre in
    let expected = input_limited w a (step_at w a input) in
    let one : Happens {T = Unit {0}} c.apply_run.new.self [] c.apply_run.new.lines (Ok tt) expected =
    subst (λ (ls : List Line). Happens {T = Unit {0}} c.apply_run.new.self ls c.apply_run.new.lines (Ok tt) expected) c.new-reported.ensures (c.in_ok-apply_run.ensures.happens w input made) in
    reported-result c.report_event.result c.apply_run.new.self c.args.lines.now c.report_event.new.lines (with_lines (timed_lines c.args.sweeps a) expected) c.report_event.ensures.ok c.report_event.ensures.memory
    (λ put. reported-happens c.apply_run.new.self c.args.lines.now c.report_event.new.lines c.apply_run.new.lines (c.timed_line.result ∷ []) (timed_lines c.args.sweeps a) expected one
    (λ v like. ap (λ (line : Line). line ∷ []) (c.timed_line.ensures ∙ ap (timed_line c.args.sweeps a) (next-is c.apply_run.new.self v c.next_message.result like c.next_message.ensures))) put)

pub returns-clause-free : goal.returns-clause-free
returns-clause-free c = memory-is-free c.report_event.result c.report_event.ensures.memory
