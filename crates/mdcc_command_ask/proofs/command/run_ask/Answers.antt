use Rattle.std.proofs.Common.{◌≡◌, Err, arith}
use Rattle.std.proofs.lemmas.Result.{IfErr-at_err}
use Rattle.mdcc_log_file.specs.declared.fault.LogFault.{LogFault}
use Rattle.mdcc_base.specs.declared.source.ReadAllFault.{ReadAllFault}
use Rattle.mdcc_command_ask.proofs.Completed.{ask_completes}
use Rattle.mdcc_command_ask.proofs.Ended.{input_early}
use Rattle.mdcc_command_ask.specs.Commands.{Untouched}
use Rattle.mdcc_command_endings.proofs.Causes.{causes_of, failed_at}
use Rattle.mdcc_command_endings.specs.Readings.{IsEarly}
use Rattle.mdcc_command_endings.specs.declared.fault.Failure.{Failure}
use Rattle.mdcc_command_ask.proofs.command.run_ask.Goals as goal

pub returns-clause-does : goal.returns-clause-does
returns-clause-does g c = record { done = c.ask_one-done.result; ends = c.finish.ensures.ends; runs = c.ask_one-done.ensures.runs }

pub returns-clause-refused : goal.returns-clause-refused
returns-clause-refused g c = λ at.
    let failed = failed_at c.ask_one-done.result c.finish.result 3 c.finish.ensures.ends.status_is at (λ h. absurd (omega arith)) (λ h. absurd (omega arith)) in
    IfErr-at_err (λ (failure : Failure). IsEarly failure → Untouched c.args.link.now c.ask_one-done.new.link c.args.out.now c.ask_one-done.new.out) failed.1 c.ask_one-done.ensures.early ((causes_of failed.0).early failed.2)

pub returns-clause-unread : goal.returns-clause-unread
returns-clause-unread g c = λ at.
    let failed = failed_at c.ask_one-done.result c.finish.result 5 c.finish.ensures.ends.status_is at (λ h. absurd (omega arith)) (λ h. absurd (omega arith)) in
    IfErr-at_err (λ (failure : Failure). IsEarly failure → Untouched c.args.link.now c.ask_one-done.new.link c.args.out.now c.ask_one-done.new.out) failed.1 c.ask_one-done.ensures.early (input_early failed.0 ((causes_of failed.0).input failed.2))

pub returns-clause-input : goal.returns-clause-input
returns-clause-input g c = λ at.
    let failed = failed_at c.ask_one-done.result c.finish.result 5 c.finish.ensures.ends.status_is at (λ h. absurd (omega arith)) (λ h. absurd (omega arith)) in
    let cause = (causes_of failed.0).input failed.2 in
    let e : c.ask_one-done.result ≡ Err (Failure.Input ReadAllFault.Failed) = cc (failed.1, cause) in
    c.ask_one-done.ensures.input e

pub returns-clause-disk : goal.returns-clause-disk
returns-clause-disk g c = λ at.
    let failed = failed_at c.ask_one-done.result c.finish.result 7 c.finish.ensures.ends.status_is at (λ h. absurd (omega arith)) (λ h. absurd (omega arith)) in
    let cause = (causes_of failed.0).disk failed.2 in
    let e : c.ask_one-done.result ≡ Err (Failure.Log cause.0 LogFault.DiskFault) = cc (failed.1, cause.1) in
    c.ask_one-done.ensures.disk cause.0 e

pub returns-clause-link : goal.returns-clause-link
returns-clause-link g c = λ at.
    let failed = failed_at c.ask_one-done.result c.finish.result 8 c.finish.ensures.ends.status_is at (λ h. absurd (omega arith)) (λ h. absurd (omega arith)) in
    let cause = (causes_of failed.0).link failed.2 in
    let e : c.ask_one-done.result ≡ Err Failure.Link = cc (failed.1, cause) in
    c.ask_one-done.ensures.link e

pub returns-clause-output : goal.returns-clause-output
returns-clause-output g c = λ at.
    let failed = failed_at c.ask_one-done.result c.finish.result 6 c.finish.ensures.ends.status_is at (λ h. absurd (omega arith)) (λ h. absurd (omega arith)) in
    let cause = (causes_of failed.0).output failed.2 in
    let e : c.ask_one-done.result ≡ Err Failure.Output = cc (failed.1, cause) in
    c.ask_one-done.ensures.output e

-- ---- over an accepted configuration

pub returns-clause-completes : goal.returns-clause-completes
returns-clause-completes g c = λ source output link.
    ask_completes g.L.Link.calls g.O.Sink.held c.args.link.now c.ask_one-done.new.link c.args.out.now c.ask_one-done.new.out c.ask_one-done.result c.finish.result c.finish.ensures.ends.status_is
    (λ e. source (c.ask_one-done.ensures.input e)) (λ e. link (c.ask_one-done.ensures.link e)) (λ e. output (c.ask_one-done.ensures.output e))
    (g.S.Source.left c.args.source.now) c.args.question c.ask_one-done.ensures.runs
