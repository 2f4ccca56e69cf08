use Rattle.mdcc_theorem_audit.proofs.Whole.{audited}
use Rattle.mdcc_theorem_audit_traces.proofs.Moments.{moment-ledger}
use Rattle.mdcc_theorem_audit_traces.proofs.traces.traces_are_audited.Goals as goal

pub returns : goal.returns
returns c cluster is events ledger moment = audited cluster ledger (moment-ledger cluster is events ledger moment)
