use Rattle.std.proofs.Common.{◌≡◌, Err, arith}
use Rattle.std.proofs.lemmas.Result.{IfErr-at_err}
use Rattle.mdcc_command_audit.proofs.Completed.{audit_completes}
use Rattle.mdcc_command_audit.proofs.Ended.{audit_ends, failed_with, status_by}
use Rattle.mdcc_base.specs.declared.source.ReadAllFault.{ReadAllFault}
use Rattle.mdcc_command_dump.proofs.Completed.{still_disks}
use Rattle.mdcc_command_dump.proofs.Ended.{input_early}
use Rattle.mdcc_command_dump.specs.Commands.{UntouchedDisks}
use Rattle.mdcc_command_endings.proofs.Causes.{causes_of}
use Rattle.mdcc_command_endings.specs.Readings.{IsEarly}
use Rattle.mdcc_command_endings.specs.declared.fault.Failure.{Failure}
use Rattle.mdcc_log_file.specs.declared.fault.LogFault.{LogFault}
use Rattle.mdcc_command_audit.proofs.command.run_audit.Goals as goal

pub returns-clause-does : goal.returns-clause-does
returns-clause-does g c = record {
  found = c.audit_logs-found.result;
  ends = c.end_audit.ensures.ends;
  runs = c.audit_logs-found.ensures.runs;
  opens = c.audit_logs-found.ensures.opens;
  others = c.audit_logs-found.ensures.others;
}

pub returns-clause-refused : goal.returns-clause-refused
returns-clause-refused g c = λ at.
    let failed = failed_with c.audit_logs-found.result c.end_audit.result 3 (status_by c.audit_logs-found.result c.end_audit.result _ _ _ _ c.end_audit.ensures.ends) at (λ h. absurd (omega arith)) (λ h. absurd (omega arith)) (λ h. absurd (omega arith)) in
    IfErr-at_err (λ (failure : Failure). IsEarly failure → UntouchedDisks c.args.disks.now c.audit_logs-found.new.disks c.args.out.now c.audit_logs-found.new.out) failed.1 c.audit_logs-found.ensures.early ((causes_of failed.0).early failed.2)

pub returns-clause-unread : goal.returns-clause-unread
returns-clause-unread g c = λ at.
    let failed = failed_with c.audit_logs-found.result c.end_audit.result 5 (status_by c.audit_logs-found.result c.end_audit.result _ _ _ _ c.end_audit.ensures.ends) at (λ h. absurd (omega arith)) (λ h. absurd (omega arith)) (λ h. absurd (omega arith)) in
    IfErr-at_err (λ (failure : Failure). IsEarly failure → UntouchedDisks c.args.disks.now c.audit_logs-found.new.disks c.args.out.now c.audit_logs-found.new.out) failed.1 c.audit_logs-found.ensures.early (input_early failed.0 ((causes_of failed.0).input failed.2))

pub returns-clause-input : goal.returns-clause-input
returns-clause-input g c = λ at.
    let failed = failed_with c.audit_logs-found.result c.end_audit.result 5 (status_by c.audit_logs-found.result c.end_audit.result _ _ _ _ c.end_audit.ensures.ends) at (λ h. absurd (omega arith)) (λ h. absurd (omega arith)) (λ h. absurd (omega arith)) in
    let cause = (causes_of failed.0).input failed.2 in
    let e : c.audit_logs-found.result ≡ Err (Failure.Input ReadAllFault.Failed) = cc (failed.1, cause) in
    c.audit_logs-found.ensures.input e

pub returns-clause-disk : goal.returns-clause-disk
returns-clause-disk g c = λ at.
    let failed = failed_with c.audit_logs-found.result c.end_audit.result 7 (status_by c.audit_logs-found.result c.end_audit.result _ _ _ _ c.end_audit.ensures.ends) at (λ h. absurd (omega arith)) (λ h. absurd (omega arith)) (λ h. absurd (omega arith)) in
    let cause = (causes_of failed.0).disk failed.2 in
    let e : c.audit_logs-found.result ≡ Err (Failure.Log cause.0 LogFault.DiskFault) = cc (failed.1, cause.1) in
    (cause.0, c.audit_logs-found.ensures.disk cause.0 e)

pub returns-clause-link : goal.returns-clause-link
returns-clause-link g c = λ at.
    let failed = failed_with c.audit_logs-found.result c.end_audit.result 8 (status_by c.audit_logs-found.result c.end_audit.result _ _ _ _ c.end_audit.ensures.ends) at (λ h. absurd (omega arith)) (λ h. absurd (omega arith)) (λ h. absurd (omega arith)) in
    let cause = (causes_of failed.0).link failed.2 in
    let e : c.audit_logs-found.result ≡ Err Failure.Link = cc (failed.1, cause) in
    c.audit_logs-found.ensures.link e

pub returns-clause-output : goal.returns-clause-output
returns-clause-output g c = λ at.
    let failed = failed_with c.audit_logs-found.result c.end_audit.result 6 (status_by c.audit_logs-found.result c.end_audit.result _ _ _ _ c.end_audit.ensures.ends) at (λ h. absurd (omega arith)) (λ h. absurd (omega arith)) (λ h. absurd (omega arith)) in
    let cause = (causes_of failed.0).output failed.2 in
    let e : c.audit_logs-found.result ≡ Err Failure.Output = cc (failed.1, cause) in
    c.audit_logs-found.ensures.output e

pub returns-clause-logs : goal.returns-clause-logs
returns-clause-logs g c =
    audit_ends g.D.Disks.disk g.D.Disks.may_leave g.D.Disks.moment g.D.Disks.left_since g.D.Disks.tears g.O.Sink.held c.args.disks.now c.audit_logs-found.new.disks c.args.out.now c.audit_logs-found.new.out
    c.audit_logs-found.result c.end_audit.result (status_by c.audit_logs-found.result c.end_audit.result _ _ _ _ c.end_audit.ensures.ends) (g.S.Source.left c.args.source.now) c.audit_logs-found.ensures.runs

pub returns-clause-completes : goal.returns-clause-completes
returns-clause-completes g c = λ source output disks.
    audit_completes g.D.Disks.disk g.D.Disks.may_leave g.D.Disks.moment g.D.Disks.left_since g.D.Disks.tears g.O.Sink.held c.args.disks.now c.audit_logs-found.new.disks c.args.out.now c.audit_logs-found.new.out
    c.audit_logs-found.result c.end_audit.result _ _ _ _ c.end_audit.ensures.ends
    (λ e. source (c.audit_logs-found.ensures.input e))
    (λ a e. still_disks g.D.Disks.disk c.args.disks.now c.audit_logs-found.new.disks a disks (c.audit_logs-found.ensures.disk a e))
    (λ e. output (c.audit_logs-found.ensures.output e))
    (g.S.Source.left c.args.source.now) c.audit_logs-found.ensures.runs
