-- A transaction with its verdict.
use Rattle.mdcc_base.specs.declared.identifiers.TxId.{TxId}
use Rattle.mdcc_audit.specs.Auditing.{State, verdict_of}
use Rattle.mdcc_audit.specs.declared.audited.Verdict3.{Verdict3}

abbrev pub with_verdict : State → TxId → TxId × Verdict3
with_verdict state tx = (tx, verdict_of state tx)
