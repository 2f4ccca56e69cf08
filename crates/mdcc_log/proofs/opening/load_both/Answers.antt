use Rattle.std.proofs.Common.{sym}
use Rattle.std.proofs.lemmas.Result.{err_from_is_err_and}
use Rattle.mdcc_log.proofs.Loads.{loads_not, loads_first}
use Rattle.mdcc_log.proofs.opening.load_both.Goals as goal

pub returns-in_err-first-clause-second : goal.returns-in_err-first-clause-second
returns-in_err-first-clause-second g c =
    let p = err_from_is_err_and c.from_residual.result c.from_residual.ensures.1 in
    loads_not g.D.Disks.disk g.D.Disks.may_leave g.D.Disks.moment g.D.Disks.left_since g.met.D.Disks.only_now c.args.disks.now c.load.new.disks c.args.second_place c.args.first_place c.from_residual.result p.0 p.1 (λ is. c.requires (sym is)) c.load.ensures.others

pub returns-in_err-second-clause-first : goal.returns-in_err-second-clause-first
returns-in_err-second-clause-first g c =
    loads_first g.D.Disks.disk g.D.Disks.may_leave g.D.Disks.moment g.D.Disks.left_since g.met.D.Disks.only_now c.args.disks.now c.load.new.disks c.load-2.new.disks c.args.first_place c.args.second_place c.from_residual-in_err-second.result c.requires c.load-2.ensures.others
    c.load.ensures.others.told c.load.ensures.bytes (λ told. c.in_ok-first.ensures.durable told) c.load.ensures.any_moment (λ told. c.in_ok-first.ensures.all_calls told) c.load.ensures.crash

pub returns-clause-first : goal.returns-clause-first
returns-clause-first g c =
    loads_first g.D.Disks.disk g.D.Disks.may_leave g.D.Disks.moment g.D.Disks.left_since g.met.D.Disks.only_now c.args.disks.now c.load.new.disks c.load-2.new.disks c.args.first_place c.args.second_place _ c.requires c.load-2.ensures.others
    c.load.ensures.others.told c.load.ensures.bytes (λ told. c.in_ok-first.ensures.durable told) c.load.ensures.any_moment (λ told. c.in_ok-first.ensures.all_calls told) c.load.ensures.crash
