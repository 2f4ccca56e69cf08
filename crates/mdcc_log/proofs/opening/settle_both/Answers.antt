use Rattle.std.proofs.Common.{inl, sym, ◌∙◌, refl}
use Rattle.std.proofs.lemmas.Result.{err_from_is_err_and}
use Rattle.mdcc_log.specs.Frames.{spare_calls}
use Rattle.mdcc_log.specs.Repair.{settled, settle_at, MaySettle, MayClose, with_closed_gate}
use Rattle.mdcc_log.proofs.Settles.{settles_not, settles_first, settles_second, settles_failed}
use Rattle.mdcc_log.proofs.opening.settle_both.Goals as goal

pub returns-in_err-settle-clause-other : goal.returns-in_err-settle-clause-other
returns-in_err-settle-clause-other g c =
    let p = err_from_is_err_and c.from_residual.result c.from_residual.ensures.1 in
    settles_not g.D.Disks.disk g.D.Disks.may_leave g.D.Disks.moment g.D.Disks.left_since g.met.D.Disks.only_now c.args.disks.now c.settle.new.disks c.args.other_place c.args.place (with_closed_gate c.args.other.now) (MayClose g.D.Disks.tears c.args.other.now) (spare_calls c.args.other.now) c.from_residual.result p.0 p.1 (λ is. c.requires.apart (sym is)) c.settle.ensures.others (λ told x now. inl (c.requires.other_durable told x now ∙ sym (c.requires.other_file told)))

pub returns-in_err-close_spare-clause-current : goal.returns-in_err-close_spare-clause-current
returns-in_err-close_spare-clause-current g c =
    settles_first g.D.Disks.disk g.D.Disks.may_leave g.D.Disks.moment g.D.Disks.left_since g.met.D.Disks.only_now g.met.D.Disks.counts_now c.args.disks.now c.settle.new.disks c.close_spare.new.disks c.args.place c.args.other_place (settled c.args.gate c.args.bytes.now) (MaySettle g.D.Disks.tears c.args.gate c.args.bytes.now) (settle_at c.args.gate c.args.bytes.now) c.from_residual-in_err-close_spare.result c.requires.apart c.close_spare.ensures.others c.settle.ensures.others.told
    (λ told. c.in_ok-settle.ensures.settled told) (λ told. c.in_ok-settle.ensures.durable told) (λ told. c.settle.ensures.any_moment told) c.in_ok-settle.ensures.all_calls

pub returns-clause-current : goal.returns-clause-current
returns-clause-current g c =
    settles_first g.D.Disks.disk g.D.Disks.may_leave g.D.Disks.moment g.D.Disks.left_since g.met.D.Disks.only_now g.met.D.Disks.counts_now c.args.disks.now c.settle.new.disks c.close_spare.new.disks c.args.place c.args.other_place (settled c.args.gate c.args.bytes.now) (MaySettle g.D.Disks.tears c.args.gate c.args.bytes.now) (settle_at c.args.gate c.args.bytes.now) _ c.requires.apart c.close_spare.ensures.others c.settle.ensures.others.told
    (λ told. c.in_ok-settle.ensures.settled told) (λ told. c.in_ok-settle.ensures.durable told) (λ told. c.settle.ensures.any_moment told) c.in_ok-settle.ensures.all_calls

pub returns-in_err-close_spare-clause-other : goal.returns-in_err-close_spare-clause-other
returns-in_err-close_spare-clause-other g c =
    let p = err_from_is_err_and c.from_residual-in_err-close_spare.result c.from_residual-in_err-close_spare.ensures.1 in
    settles_failed g.D.Disks.disk g.D.Disks.may_leave g.D.Disks.moment g.D.Disks.left_since g.met.D.Disks.only_now c.args.disks.now c.settle.new.disks c.close_spare.new.disks c.args.other_place c.args.place (with_closed_gate c.args.other.now) (MayClose g.D.Disks.tears c.args.other.now) (spare_calls c.args.other.now) c.from_residual-in_err-close_spare.result (λ is. c.requires.apart (sym is)) c.settle.ensures.others (λ told x now. inl (c.requires.other_durable told x now ∙ sym (c.requires.other_file told)))
    p.0 p.1 c.close_spare.ensures.others.told (λ told. c.close_spare.ensures.any_moment told) c.close_spare.ensures.calls

pub returns-clause-other : goal.returns-clause-other
returns-clause-other g c =
    settles_second g.D.Disks.disk g.D.Disks.may_leave g.D.Disks.moment g.D.Disks.left_since g.met.D.Disks.only_now c.args.disks.now c.settle.new.disks c.close_spare.new.disks c.args.other_place c.args.place (with_closed_gate c.args.other.now) (MayClose g.D.Disks.tears c.args.other.now) (spare_calls c.args.other.now) _ (λ is. c.requires.apart (sym is)) c.settle.ensures.others (λ told x now. inl (c.requires.other_durable told x now ∙ sym (c.requires.other_file told)))
    c.closed_spare.result refl c.close_spare.ensures.others.told (λ told. c.in_ok-close_spare.ensures.closed told) (λ told. c.in_ok-close_spare.ensures.durable told) (λ told. c.close_spare.ensures.any_moment told) c.in_ok-close_spare.ensures.all_calls
