use Rattle.mdcc_theorem_audit_traces.proofs.Read.{disks-audited}
use Rattle.mdcc_theorem_audit_traces.proofs.disks.disks_are_audited.Goals as goal

pub returns : goal.returns
returns c w disks is h logs = disks-audited w disks is logs h
