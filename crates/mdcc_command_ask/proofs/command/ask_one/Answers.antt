use Rattle.std.proofs.Common.{◌≡◌, ◌∙◌, Err, ap, refl, subst, sym, ℕ}
use Rattle.std.proofs.lemmas.Result.{err_from_is_err_and}
use Rattle.mdcc_log_file.specs.declared.fault.LogFault.{LogFault}
use Rattle.mdcc_base.specs.declared.source.ReadAllFault.{ReadAllFault}
use Rattle.mdcc_command_ask.proofs.Waiting.{asks_there}
use Rattle.mdcc_command_ask.specs.Asking.{whole_asking}
use Rattle.mdcc_base.specs.Causes.{Rose}
use Rattle.mdcc_command_ask.proofs.Ended.{asked_runs, link_asked, no_centre_runs, no_disk, no_input, not_early, output_asked, unread_runs}
use Rattle.mdcc_command_ask.specs.Commands.{Untouched}
use Rattle.mdcc_command_ask.specs.declared.order.Order.{Order}
use Rattle.mdcc_command_endings.specs.Readings.{IsOfInput}
use Rattle.mdcc_command_endings.specs.declared.fault.Failure.{Failure}
use Rattle.mdcc_command_ask.proofs.command.ask_one.Goals as goal

-- ---- no configuration

pub returns-in_err-config-clause-runs : goal.returns-in_err-config-clause-runs
returns-in_err-config-clause-runs g c =
    let p = err_from_is_err_and c.from_residual.result c.from_residual.ensures.1 in
    let e : c.from_residual.result ≡ Err c.in_err-config.field-0.0 = cc (p.1, p.2) in
    unread_runs g.L.Link.calls g.O.Sink.held c.args.link.now c.args.link.now c.args.out.now c.args.out.now (g.S.Source.left c.args.source.now) c.args.question c.in_err-config.field-0.0 c.from_residual.result e (record { link = refl; output = refl }) c.in_err-config.ensures.config

pub returns-in_err-config-clause-early : goal.returns-in_err-config-clause-early
returns-in_err-config-clause-early g c =
    let p = err_from_is_err_and c.from_residual.result c.from_residual.ensures.1 in
    rw p.1 (λ early. record { link = refl; output = refl })

pub returns-in_err-config-clause-disk : goal.returns-in_err-config-clause-disk
returns-in_err-config-clause-disk g c a = λ h.
    let p = err_from_is_err_and c.from_residual.result c.from_residual.ensures.1 in
    let same : c.in_err-config.field-0.0 ≡ Failure.Log a LogFault.DiskFault = cc (p.1, p.2, h) in
    subst (λ (f : Failure). IsOfInput f) same c.in_err-config.ensures.of_input

pub returns-in_err-config-clause-input : goal.returns-in_err-config-clause-input
returns-in_err-config-clause-input g c = λ h.
    let p = err_from_is_err_and c.from_residual.result c.from_residual.ensures.1 in
    let same : c.in_err-config.field-0.0 ≡ Failure.Input ReadAllFault.Failed = cc (p.1, p.2, h) in
    c.in_err-config.ensures.failed (rw same refl)

pub returns-in_err-config-clause-link : goal.returns-in_err-config-clause-link
returns-in_err-config-clause-link g c = λ h.
    let p = err_from_is_err_and c.from_residual.result c.from_residual.ensures.1 in
    let same : c.in_err-config.field-0.0 ≡ Failure.Link = cc (p.1, p.2, h) in
    absurd (subst (λ (f : Failure). IsOfInput f) same c.in_err-config.ensures.of_input)

pub returns-in_err-config-clause-output : goal.returns-in_err-config-clause-output
returns-in_err-config-clause-output g c = λ h.
    let p = err_from_is_err_and c.from_residual.result c.from_residual.ensures.1 in
    let same : c.in_err-config.field-0.0 ≡ Failure.Output = cc (p.1, p.2, h) in
    absurd (subst (λ (f : Failure). IsOfInput f) same c.in_err-config.ensures.of_input)

-- ---- no such centre

pub returns-in_default-clause-runs : goal.returns-in_default-clause-runs
returns-in_default-clause-runs g c =
    no_centre_runs g.L.Link.calls g.O.Sink.held c.args.link.now c.args.link.now c.args.out.now c.args.out.now (g.S.Source.left c.args.source.now) c.args.question c.in_ok-config.config
    (c.centre_of.ensures.none c.in_default.is) (record { link = refl; output = refl }) c.in_ok-config.ensures.config

-- ---- its centre is asked

pub returns-clause-runs : goal.returns-clause-runs
returns-clause-runs g c =
    let order = λ (centre : ℕ). (let o : Order = record { centre = centre; serial = c.args.question.serial; keys = c.args.question.keys; updates = c.args.question.updates } in o) in
    asked_runs g.L.Link.calls g.O.Sink.held c.args.link.now c.ask.new.link c.args.out.now c.ask.new.out (g.S.Source.left c.args.source.now) c.args.question c.in_ok-config.config (order c.in-Some.centre) c.ask.result c.as_done.result
    (ap order c.in-Some.ensures.some.0) c.in-Some.ensures.some.1 c.as_done.ensures
    (asks_there g.L.Link.calls g.O.Sink.held c.args.link.now c.set_wait.new.self c.ask.new.link c.args.out.now c.ask.new.out c.set_wait.ensures.calls (whole_asking c.in_ok-config.config (order c.in-Some.centre) c.args.question.turns) c.args.question.turns c.ask.result c.ask.ensures.asks)
    c.in_ok-config.ensures.config

pub returns-clause-early : goal.returns-clause-early
returns-clause-early g c = not_early (Untouched c.args.link.now c.ask.new.link c.args.out.now c.ask.new.out) c.ask.result c.as_done.result c.as_done.ensures

pub returns-clause-disk : goal.returns-clause-disk
returns-clause-disk g c a = λ h. no_disk a c.ask.result (sym c.as_done.ensures ∙ h)

pub returns-clause-input : goal.returns-clause-input
returns-clause-input g c = λ h. absurd (no_input c.ask.result (sym c.as_done.ensures ∙ h))

pub returns-clause-link : goal.returns-clause-link
returns-clause-link g c = λ h.
    subst (λ n. Rose n (g.L.Link.faults c.ask.new.link)) c.set_wait.ensures.receives (c.ask.ensures.causes.link (link_asked c.ask.result (sym c.as_done.ensures ∙ h)))

pub returns-clause-output : goal.returns-clause-output
returns-clause-output g c = λ h. c.ask.ensures.causes.output (output_asked c.ask.result (sym c.as_done.ensures ∙ h))

pub ask-requires-clause-order : goal.ask-requires-clause-order
ask-requires-clause-order g c = record { few = c.requires.few; named = c.requires.named }
