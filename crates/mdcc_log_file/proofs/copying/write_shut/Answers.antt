use Rattle.std.proofs.Common.{◌∷◌, [], inl, sym, ◌∙◌, subst}
use Rattle.mdcc_disks.specs.Disks.{IsTorn}
use Rattle.mdcc_log_file.proofs.Moments.{one_call}
use Rattle.mdcc_log_file.specs.Copying.{MayShut}
use Rattle.mdcc_log_file.proofs.Gates.{is_long, is_not_shut, gate_may_shut}
use Rattle.mdcc_log_file.proofs.copying.write_shut.Goals as goal

pub returns-else-closed-clause-crash : goal.returns-else-closed-clause-crash
returns-else-closed-clause-crash g c told x now =
    let old = (g.D.Disks.disk c.args.disks.now c.args.place).bytes in
    let was = c.write_at-else-closed.ensures.crash x now in
    gate_may_shut old x (is_long c.in-Long.closed c.in-Long.marked old (sym c.in-Long.is ∙ c.requires.spare told)) (is_not_shut c.in-Long.closed c.in-Long.marked old (sym c.in-Long.is ∙ c.requires.spare told) c.if-closed.false) (subst (λ l. IsTorn g.D.Disks.tears 8 (0 ∷ []) l x) (c.requires.durable told was.0 was.1) was.2)

pub returns-else-closed-clause-any_moment : goal.returns-else-closed-clause-any_moment
returns-else-closed-clause-any_moment g c told =
    let old = (g.D.Disks.disk c.args.disks.now c.args.place).bytes in
    one_call (MayShut old) c.write_at-else-closed.ensures.call.time
    (λ x left. inl (c.requires.durable told x (g.met.D.Disks.only_now c.args.disks.now c.args.place x left)))
    (λ x now. gate_may_shut old x (is_long c.in-Long.closed c.in-Long.marked old (sym c.in-Long.is ∙ c.requires.spare told)) (is_not_shut c.in-Long.closed c.in-Long.marked old (sym c.in-Long.is ∙ c.requires.spare told) c.if-closed.false) (subst (λ l. IsTorn g.D.Disks.tears 8 (0 ∷ []) l x) (c.requires.durable told (c.write_at-else-closed.ensures.crash x now).0 (c.write_at-else-closed.ensures.crash x now).1) (c.write_at-else-closed.ensures.crash x now).2))
