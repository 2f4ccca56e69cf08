use Rattle.std.proofs.Common.{◌≡◌, Err, arith}
use Rattle.std.proofs.lemmas.Result.{IfErr-at_err}
use Rattle.mdcc_log_file.specs.declared.fault.LogFault.{LogFault}
use Rattle.mdcc_base.specs.declared.source.ReadAllFault.{ReadAllFault}
use Rattle.mdcc_command_endings.proofs.Causes.{causes_of, failed_at}
use Rattle.mdcc_command_endings.specs.Readings.{IsEarly}
use Rattle.mdcc_command_endings.specs.declared.fault.Failure.{Failure}
use Rattle.mdcc_command_serve.proofs.Completed.{cluster_completes, cluster_ends, still_disks}
use Rattle.mdcc_command_serve.proofs.Served.{input_early}
use Rattle.mdcc_command_serve.specs.Commands.{UntouchedOutside}
use Rattle.mdcc_command_serve.proofs.commands.run_cluster.Goals as goal

pub returns-clause-does : goal.returns-clause-does
returns-clause-does g c = record { served = c.serve_all-served.result; ends = c.finish.ensures.ends; runs = c.serve_all-served.ensures.runs; failed_disk = c.serve_all-served.ensures.disk; others = c.serve_all-served.ensures.others }

pub returns-clause-refused : goal.returns-clause-refused
returns-clause-refused g c = λ at.
    let failed = failed_at c.serve_all-served.result c.finish.result 3 c.finish.ensures.ends.status_is at (λ h. absurd (omega arith)) (λ h. absurd (omega arith)) in
    IfErr-at_err (λ (failure : Failure). IsEarly failure → UntouchedOutside c.args.disks.now c.serve_all-served.new.disks c.args.link.now c.serve_all-served.new.link c.args.out.now c.serve_all-served.new.out) failed.1 c.serve_all-served.ensures.early ((causes_of failed.0).early failed.2)

pub returns-clause-unread : goal.returns-clause-unread
returns-clause-unread g c = λ at.
    let failed = failed_at c.serve_all-served.result c.finish.result 5 c.finish.ensures.ends.status_is at (λ h. absurd (omega arith)) (λ h. absurd (omega arith)) in
    IfErr-at_err (λ (failure : Failure). IsEarly failure → UntouchedOutside c.args.disks.now c.serve_all-served.new.disks c.args.link.now c.serve_all-served.new.link c.args.out.now c.serve_all-served.new.out) failed.1 c.serve_all-served.ensures.early (input_early failed.0 ((causes_of failed.0).input failed.2))

pub returns-clause-input : goal.returns-clause-input
returns-clause-input g c = λ at.
    let failed = failed_at c.serve_all-served.result c.finish.result 5 c.finish.ensures.ends.status_is at (λ h. absurd (omega arith)) (λ h. absurd (omega arith)) in
    let cause = (causes_of failed.0).input failed.2 in
    let e : c.serve_all-served.result ≡ Err (Failure.Input ReadAllFault.Failed) = cc (failed.1, cause) in
    c.serve_all-served.ensures.input e

pub returns-clause-link : goal.returns-clause-link
returns-clause-link g c = λ at.
    let failed = failed_at c.serve_all-served.result c.finish.result 8 c.finish.ensures.ends.status_is at (λ h. absurd (omega arith)) (λ h. absurd (omega arith)) in
    let cause = (causes_of failed.0).link failed.2 in
    let e : c.serve_all-served.result ≡ Err Failure.Link = cc (failed.1, cause) in
    c.serve_all-served.ensures.link e

pub returns-clause-output : goal.returns-clause-output
returns-clause-output g c = λ at.
    let failed = failed_at c.serve_all-served.result c.finish.result 6 c.finish.ensures.ends.status_is at (λ h. absurd (omega arith)) (λ h. absurd (omega arith)) in
    let cause = (causes_of failed.0).output failed.2 in
    let e : c.serve_all-served.result ≡ Err Failure.Output = cc (failed.1, cause) in
    c.serve_all-served.ensures.output e

pub returns-clause-disk : goal.returns-clause-disk
returns-clause-disk g c = λ at.
    let failed = failed_at c.serve_all-served.result c.finish.result 7 c.finish.ensures.ends.status_is at (λ h. absurd (omega arith)) (λ h. absurd (omega arith)) in
    let cause = (causes_of failed.0).disk failed.2 in
    let e : c.serve_all-served.result ≡ Err (Failure.Log cause.0 LogFault.DiskFault) = cc (failed.1, cause.1) in
    (cause.0, c.serve_all-served.ensures.disk cause.0 e)

-- ---- over an accepted configuration

pub returns-clause-logs : goal.returns-clause-logs
returns-clause-logs g c =
    cluster_ends g.D.Disks.disk g.D.Disks.may_leave g.D.Disks.tears g.L.Link.calls g.L.Link.lost g.O.Sink.held c.args.disks.now c.serve_all-served.new.disks c.args.link.now c.serve_all-served.new.link c.args.out.now c.serve_all-served.new.out
    c.serve_all-served.result c.finish.result c.finish.ensures.ends.status_is (g.S.Source.left c.args.source.now) c.args.turns c.serve_all-served.ensures.runs

pub returns-clause-completes : goal.returns-clause-completes
returns-clause-completes g c = λ source output link disks.
    cluster_completes g.D.Disks.disk g.D.Disks.may_leave g.D.Disks.tears g.L.Link.calls g.L.Link.lost g.O.Sink.held c.args.disks.now c.serve_all-served.new.disks c.args.link.now c.serve_all-served.new.link c.args.out.now c.serve_all-served.new.out
    c.serve_all-served.result c.finish.result c.finish.ensures.ends.status_is
    (λ e. source (c.serve_all-served.ensures.input e))
    (λ a e. still_disks g.D.Disks.disk c.args.disks.now c.serve_all-served.new.disks a disks (c.serve_all-served.ensures.disk a e))
    (λ e. link (c.serve_all-served.ensures.link e))
    (λ e. output (c.serve_all-served.ensures.output e))
    (g.S.Source.left c.args.source.now) c.args.turns c.serve_all-served.ensures.runs
