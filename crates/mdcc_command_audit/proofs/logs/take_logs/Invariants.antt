use Rattle.std.proofs.Common.{◌≡◌, ◌+◌, ℕ}
use Rattle.mdcc_audit.specs.Represents.{state_of}
use Rattle.mdcc_command_audit.proofs.Facts.{Left}
use Rattle.mdcc_command_audit.proofs.Stages.{Opened}
use Rattle.mdcc_command_audit.specs.Audits.{AreTold}
use Rattle.mdcc_command_audit.proofs.logs.take_logs.Given as goal

abbrev pub invariant-loop-number : goal.invariant-loop-number
invariant-loop-number g l = record {
  stage : (last : ℕ) × (l.number ≡ last + 1) × Opened g.D.Disks.disk g.D.Disks.may_leave g.D.Disks.moment g.D.Disks.left_since g.D.Disks.tears l.cluster l.fn.disks last l.disks;
  state : AreTold g.D.Disks.disk l.fn.disks l.cluster.quorums.centres → Left g.D.Disks.disk l.cluster.quorums l.fn.disks (state_of l.audit) l.number l.cluster.quorums.centres;
  quorums : l.audit.quorums ≡ l.cluster.quorums;
}
