use Rattle.std.proofs.Common.{Ok, subst, sym}
use Rattle.mdcc_command_audit.specs.Commands.{AuditEnds}
use Rattle.mdcc_command_audit.specs.declared.found.Found.{Found}
use Rattle.mdcc_command_audit.proofs.command.end_found.Goals as goal

pub returns-in-Contradiction-clause-ends : goal.returns-in-Contradiction-clause-ends
returns-in-Contradiction-clause-ends g c =
    subst (λ (found : Found). AuditEnds (Ok found) c.end_contradicted.result (g.E.Sink.held c.args.err.now) (g.E.Sink.held c.end_contradicted.new.err) (g.E.Sink.faults c.args.err.now) (g.E.Sink.faults c.end_contradicted.new.err))
    (sym c.in-Contradiction.is) c.end_contradicted.ensures.ends
