-- Which fault of an audit may come at any time.
use Rattle.std.specs.Prelude.{Bool, false, true}
use Rattle.mdcc_audit.specs.declared.audited.AuditFault.{AuditFault}

abbrev pub is_audit_memory : AuditFault → Bool
is_audit_memory AuditFault.Memory = true
is_audit_memory _ = false
