use Rattle.mdcc_theorem_audit_traces.proofs.TraceDisks.{trace-audited}
use Rattle.mdcc_theorem_audit_traces.proofs.traces.disks_of_traces_are_audited.Goals as goal

pub returns : goal.returns
returns c = trace-audited
