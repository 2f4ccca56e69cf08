use Rattle.std.proofs.Common.{◌∷◌, [], sym, subst}
use Rattle.mdcc_disks.specs.Disks.{IsTorn}
use Rattle.mdcc_log_file.specs.Crash.{MayRepair}
use Rattle.mdcc_log_file.proofs.Moments.{weakened}
use Rattle.mdcc_log_file.proofs.Repairs.{close_leaves}
use Rattle.mdcc_log_file.proofs.repair.close_gate.Goals as goal

pub returns-clause-any_moment : goal.returns-clause-any_moment
returns-clause-any_moment g c told =
    weakened (MayRepair g.D.Disks.tears c.args.gate c.args.bytes.now) (c.write_through.ensures.any_moment told) (λ x torn.
    close_leaves g.D.Disks.tears c.args.gate c.args.bytes.now x c.requires.gate c.if-bytes-gate-eq0.false (subst (λ l. IsTorn g.D.Disks.tears c.args.gate (0 ∷ []) l x) (sym (c.requires.file told)) torn))
