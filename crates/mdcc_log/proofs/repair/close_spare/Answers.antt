use Rattle.std.proofs.Common.{◌∷◌, [], sym, subst}
use Rattle.mdcc_disks.specs.Disks.{IsTorn}
use Rattle.mdcc_log_file.proofs.Moments.{weakened}
use Rattle.mdcc_log.specs.Repair.{MayClose}
use Rattle.mdcc_log.proofs.Closes.{may_close}
use Rattle.mdcc_log.proofs.repair.close_spare.Goals as goal

pub returns-then-is_torn-clause-any_moment : goal.returns-then-is_torn-clause-any_moment
returns-then-is_torn-clause-any_moment g c told =
    weakened (MayClose g.D.Disks.tears c.args.bytes.now) (c.write_through.ensures.any_moment told) (λ x torn.
    may_close g.D.Disks.tears c.args.bytes.now x (sym c.if-is_torn.ensures) (subst (λ l. IsTorn g.D.Disks.tears 8 (0 ∷ []) l x) (sym (c.requires.file told)) torn))
