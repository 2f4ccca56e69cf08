use Rattle.std.proofs.Common.{inl, sym, ◌∙◌, refl}
use Rattle.std.proofs.lemmas.Result.{err_from_is_err_and}
use Rattle.mdcc_log_file.specs.Area.{read_area}
use Rattle.mdcc_log.specs.Frames.{other_calls, settle_calls}
use Rattle.mdcc_log.specs.Repair.{MayClose, with_closed_gate}
use Rattle.mdcc_log.specs.Opening.{MaySettleAs, taken_bytes}
use Rattle.mdcc_log.proofs.Opens.{other_calls_are}
use Rattle.mdcc_log.proofs.Settles.{settles_none, failed_as, done_as, may_settle, taken_is, settle_calls_are}
use Rattle.mdcc_log.proofs.opening.take_area.Goals as goal

pub returns-in_err-read-clause-current : goal.returns-in_err-read-clause-current
returns-in_err-read-clause-current g c =
    let p = err_from_is_err_and c.from_residual.result c.from_residual.ensures.1 in
    settles_none g.D.Disks.disk g.D.Disks.may_leave g.D.Disks.moment g.D.Disks.left_since g.met.D.Disks.only_now c.args.disks.now c.args.place (taken_bytes (read_area c.args.bytes.now)) (MaySettleAs g.D.Disks.tears c.args.bytes.now) (settle_calls c.args.bytes.now) c.from_residual.result p.0 p.1
    (λ told x now. inl (c.requires.durable told x now ∙ sym (c.requires.file told)))

pub returns-in_err-read-clause-other : goal.returns-in_err-read-clause-other
returns-in_err-read-clause-other g c =
    let p = err_from_is_err_and c.from_residual.result c.from_residual.ensures.1 in
    settles_none g.D.Disks.disk g.D.Disks.may_leave g.D.Disks.moment g.D.Disks.left_since g.met.D.Disks.only_now c.args.disks.now c.args.other_place (with_closed_gate c.args.other.now) (MayClose g.D.Disks.tears c.args.other.now) (other_calls (read_area c.args.bytes.now) c.args.other.now) c.from_residual.result p.0 p.1
    (λ told x now. inl (c.requires.other_durable told x now ∙ sym (c.requires.other_file told)))

pub returns-in_err-spare-clause-current : goal.returns-in_err-spare-clause-current
returns-in_err-spare-clause-current g c =
    let p = err_from_is_err_and c.from_residual-in_err-spare.result c.from_residual-in_err-spare.ensures.1 in
    let is = c.in_ok-read.ensures.read in
    failed_as (taken_bytes (read_area c.args.bytes.now)) (MaySettleAs g.D.Disks.tears c.args.bytes.now) (settle_calls c.args.bytes.now) (may_settle is) (settle_calls_are is) c.settle_both.result c.from_residual-in_err-spare.result p.0 p.1 c.settle_both.ensures.current

pub returns-clause-current : goal.returns-clause-current
returns-clause-current g c =
    let is = c.in_ok-read.ensures.read in
    done_as (taken_bytes (read_area c.args.bytes.now)) (MaySettleAs g.D.Disks.tears c.args.bytes.now) (settle_calls c.args.bytes.now) (may_settle is) (settle_calls_are is) c.in_ok-spare.spare _ _ refl (taken_is is) c.in_ok-spare.ensures.current

pub returns-in_err-spare-clause-other : goal.returns-in_err-spare-clause-other
returns-in_err-spare-clause-other g c =
    let p = err_from_is_err_and c.from_residual-in_err-spare.result c.from_residual-in_err-spare.ensures.1 in
    let is = c.in_ok-read.ensures.read in
    failed_as (with_closed_gate c.args.other.now) (MayClose g.D.Disks.tears c.args.other.now) (other_calls (read_area c.args.bytes.now) c.args.other.now) (λ x may. may) (other_calls_are c.args.bytes.now c.args.other.now is.log is.read) c.settle_both.result c.from_residual-in_err-spare.result p.0 p.1 c.settle_both.ensures.other

pub returns-clause-other : goal.returns-clause-other
returns-clause-other g c =
    let is = c.in_ok-read.ensures.read in
    done_as (with_closed_gate c.args.other.now) (MayClose g.D.Disks.tears c.args.other.now) (other_calls (read_area c.args.bytes.now) c.args.other.now) (λ x may. may) (other_calls_are c.args.bytes.now c.args.other.now is.log is.read) c.in_ok-spare.spare _ _ refl refl c.in_ok-spare.ensures.other
