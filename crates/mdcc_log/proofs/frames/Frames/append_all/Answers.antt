use Rattle.std.proofs.Common.{inl}
use Rattle.mdcc_log.specs.Groups.{with_payloads}
use Rattle.mdcc_log.proofs.Groups.{rest_reads, unwritten, unwritten_other}
use Rattle.mdcc_log.proofs.frames.Frames.append_all.Goals as goal

-- nothing was written
pub returns-then-are_full-clause-any_moment_reads : goal.returns-then-are_full-clause-any_moment_reads
returns-then-are_full-clause-any_moment_reads g c all current spare told told_other rest left left_other =
    inl (rest_reads g.D.Disks.disk g.D.Disks.may_leave g.D.Disks.moment g.D.Disks.left_since g.met.D.Disks.only_now c.args.disks.now c.args.self.now all rest current spare left left_other)

pub returns-then-are_full-clause-any_moment : goal.returns-then-are_full-clause-any_moment
returns-then-are_full-clause-any_moment g c log told there uses = unwritten g.D.Disks.disk g.D.Disks.may_leave g.D.Disks.moment g.D.Disks.left_since g.met.D.Disks.only_now c.args.disks.now c.args.self.now log c.args.payloads.now uses

pub returns-then-are_full-clause-any_moment_other : goal.returns-then-are_full-clause-any_moment_other
returns-then-are_full-clause-any_moment_other g c log told there uses spare = unwritten_other g.D.Disks.disk g.D.Disks.may_leave g.D.Disks.moment g.D.Disks.left_since g.met.D.Disks.only_now c.args.disks.now c.args.self.now (with_payloads log c.args.payloads.now) uses.generation spare
