use Rattle.std.proofs.Common.{◌≡◌, Err, Ok, Result, refl, subst, sym}
use Rattle.std.proofs.lemmas.Result.{err_from_is_err_and}
use Rattle.mdcc_audit.specs.Auditing.{audit_end}
use Rattle.mdcc_audit.specs.Represents.{state_of}
use Rattle.mdcc_command_audit.proofs.Ended.{printing_answers}
use Rattle.mdcc_command_audit.specs.Audits.{GivesVerdicts}
use Rattle.mdcc_command_audit.specs.declared.found.Found.{Found}
use Rattle.mdcc_command_endings.specs.declared.fault.Failure.{Failure}
use Rattle.mdcc_command_audit.proofs.command.print_audit.Goals as goal

pub returns-in_err-print_verdicts-in-Ok-clause-answers : goal.returns-in_err-print_verdicts-in-Ok-clause-answers
returns-in_err-print_verdicts-in-Ok-clause-answers g c =
    let p = err_from_is_err_and c.from_residual.result c.from_residual.ensures.1 in
    let failure = c.in_err-print_verdicts-in-Ok.field-0.0 in
    let e : c.from_residual.result ≡ Err failure = cc (p.1, p.2) in
    let is : audit_end (state_of c.args.audit.now) ≡ Ok c.as_slice.result.now = cc (c.in-Ok.ensures, c.as_slice.ensures) in
    subst (λ (r : Result Found Failure). GivesVerdicts (audit_end (state_of c.args.audit.now)) r (g.O.Sink.held c.args.out.now) (g.O.Sink.held c.print_verdicts.new.out)) (sym e)
    (printing_answers (audit_end (state_of c.args.audit.now)) c.as_slice.result.now failure (g.O.Sink.held c.args.out.now) (g.O.Sink.held c.print_verdicts.new.out) is c.in_err-print_verdicts-in-Ok.ensures.fault
    (λ output. c.in_err-print_verdicts-in-Ok.ensures.front (rw output refl)) (λ memory. c.in_err-print_verdicts-in-Ok.ensures.nothing (rw memory refl)))
