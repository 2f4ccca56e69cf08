use Rattle.std.proofs.Common.{[], Ok, List, subst}
use Rattle.mdcc_def_simulation.specs.Clients.{answer_of_step, begin_lines, after_begin_step}
use Rattle.mdcc_def_simulation.specs.Limits.{input_limited}
use Rattle.mdcc_def_simulation.specs.AppliedSteps.{step_at}
use Rattle.mdcc_def_language.specs.declared.lines.Line.{Line}
use Rattle.mdcc_world.proofs.BeginTaken.{begin-line}
use Rattle.mdcc_world.proofs.Happened.{memory-is-free, next-is, residual, reported-happens, reported-refused, reported-result}
use Rattle.mdcc_world.specs.Represents.{Happens}
use Rattle.mdcc_world.specs.Report.{lines_begun}
use Rattle.mdcc_world.proofs.world.World.apply_begin.Goals as goal

pub returns-in_err-apply_step-clause-happens : goal.returns-in_err-apply_step-clause-happens
returns-in_err-apply_step-clause-happens c w input made =
    let a = c.args.centre in
    let r = step_at w a input in
    let fault = c.in_err-apply_step.field-0.0 in
    rw (residual c.from_residual.result fault c.from_residual.ensures.1)
    (reported-refused fault (begin_lines (answer_of_step r)) (input_limited w a r) (c.in_err-apply_step.ensures.happens w input made))

pub returns-clause-happens : goal.returns-clause-happens
returns-clause-happens c w input made =
    let a = c.args.centre in
    let step = c.args.step.now in
    let r = step_at w a input in
    let expected = input_limited w a r in
    let one : Happens {T = Unit {0}} c.apply_step.new.self [] c.apply_step.new.lines (Ok tt) expected =
    subst (λ (ls : List Line). Happens {T = Unit {0}} c.apply_step.new.self ls c.apply_step.new.lines (Ok tt) expected) c.new-reported.ensures (c.in_ok-apply_step.ensures.happens w input made) in
    reported-result c.report_begun.result c.apply_step.new.self c.args.lines.now c.report_begun.new.lines (after_begin_step w a r) c.report_begun.ensures.ok c.report_begun.ensures.memory
    (λ put. reported-happens c.apply_step.new.self c.args.lines.now c.report_begun.new.lines c.apply_step.new.lines (lines_begun step.answer c.next_message.result) (begin_lines (answer_of_step r)) expected one
    (λ v like. begin-line step r v c.next_message.result made.before.step_itself (next-is c.apply_step.new.self v c.next_message.result like c.next_message.ensures)) put)

pub returns-clause-free : goal.returns-clause-free
returns-clause-free c = memory-is-free c.report_begun.result c.report_begun.ensures.memory
