use Rattle.std.proofs.Common.{◌≡◌, [], List, Err, map, rules, subst, sym, refl, ◌+◌}
use Rattle.mdcc_def_server_runs.specs.Servers.{site_of}
use Rattle.mdcc_serve.proofs.Ended.{EndsFrom, serve_caused, serve_others, serves, start_breaks}
use Rattle.mdcc_serve.specs.Centres.{AllServed, places}
use Rattle.mdcc_serve_site.specs.Moments.{outside}
use Rattle.mdcc_serve_site.specs.declared.site.Site.{Site as TheSite}
use Rattle.mdcc_serve.proofs.Refused.{turns_end}
use Rattle.mdcc_serve.proofs.Full.{lacks_none}
use Rattle.mdcc_serve.proofs.Untaken.{none_refuses}
use Rattle.mdcc_serve.proofs.serve.serve.Goals as goal

pub serve_sites-requires-clause-served : goal.serve_sites-requires-clause-served
serve_sites-requires-clause-served g c =
    let w = outside c.args.config.now.checkpoint g.D.Disks.disk g.D.Disks.may_leave g.L.Link.calls g.L.Link.lost g.L.Link.faults g.O.Sink.held g.O.Sink.faults in
    let has = c.in_ok-sites.ensures.opens in
    subst (λ (held : List TheSite). AllServed w c.args.config.now.cluster c.open.new.disks held) (sym c.deref_mut.ensures.value) (record { sites = map site_of has.logs; stand = has.finish.stand; ascend = has.ascend })

pub returns-in_err-sites-clause-serves : goal.returns-in_err-sites-clause-serves
returns-in_err-sites-clause-serves g c logs follow long are =
    let w = outside c.args.config.now.checkpoint g.D.Disks.disk g.D.Disks.may_leave g.L.Link.calls g.L.Link.lost g.L.Link.faults g.O.Sink.held g.O.Sink.faults in
    let e : c.from_residual.result ≡ Err c.in_err-sites.field-0.0 = search rules in
    rw e (start_breaks w g.D.Disks.tears c.args.config.now refl c.args.first c.args.last c.args.turns c.in_err-sites.field-0.0 (places c.args.disks.now [] c.args.link.now c.args.out.now) (places c.open.new.disks [] c.open.new.link c.open.new.out)
    c.in_err-sites.ensures.fails logs follow long are)

pub returns-in_err-sites-clause-causes : goal.returns-in_err-sites-clause-causes
returns-in_err-sites-clause-causes g c =
    let e : c.from_residual.result ≡ Err c.in_err-sites.field-0.0 = search rules in
    rw e c.in_err-sites.ensures.fails.cause

pub returns-clause-serves : goal.returns-clause-serves
returns-clause-serves g c logs follow long are =
    let w = outside c.args.config.now.checkpoint g.D.Disks.disk g.D.Disks.may_leave g.L.Link.calls g.L.Link.lost g.L.Link.faults g.O.Sink.held g.O.Sink.faults in
    let config = c.args.config.now in
    let new = places c.serve_sites.new.disks c.serve_sites.new.sites c.serve_sites.new.link c.serve_sites.new.out in
    serves w g.D.Disks.tears config refl c.args.first c.args.last c.args.turns c.serve_sites.result c.args.disks.now c.args.link.now c.args.out.now (places c.open.new.disks c.in_ok-sites.sites.items c.open.new.link c.open.new.out) new
    c.in_ok-sites.ensures.opens
    (subst (λ (held : List TheSite). EndsFrom w config c.args.turns c.serve_sites.result (places c.open.new.disks held c.open.new.link c.open.new.out) new) c.deref_mut.ensures.value c.serve_sites.ensures)
    logs follow long are

pub returns-clause-causes : goal.returns-clause-causes
returns-clause-causes g c =
    let w = outside c.args.config.now.checkpoint g.D.Disks.disk g.D.Disks.may_leave g.L.Link.calls g.L.Link.lost g.L.Link.faults g.O.Sink.held g.O.Sink.faults in
    let config = c.args.config.now in
    let new = places c.serve_sites.new.disks c.serve_sites.new.sites c.serve_sites.new.link c.serve_sites.new.out in
    serve_caused w config c.args.first c.args.last c.args.turns c.serve_sites.result (places c.args.disks.now [] c.args.link.now c.args.out.now) (places c.open.new.disks c.in_ok-sites.sites.items c.open.new.link c.open.new.out) new
    c.in_ok-sites.ensures.opens
    (subst (λ (held : List TheSite). EndsFrom w config c.args.turns c.serve_sites.result (places c.open.new.disks held c.open.new.link c.open.new.out) new) c.deref_mut.ensures.value c.serve_sites.ensures)

-- ---- what is said of their logs

pub returns-in_err-sites-clause-logs : goal.returns-in_err-sites-clause-logs
returns-in_err-sites-clause-logs g c =
    let e : c.from_residual.result ≡ Err c.in_err-sites.field-0.0 = search rules in
    rw e c.in_err-sites.ensures.logs

pub returns-clause-logs : goal.returns-clause-logs
returns-clause-logs g c =
    let w = outside c.args.config.now.checkpoint g.D.Disks.disk g.D.Disks.may_leave g.L.Link.calls g.L.Link.lost g.L.Link.faults g.O.Sink.held g.O.Sink.faults in
    let config = c.args.config.now in
    let has = c.in_ok-sites.ensures.opens in
    let new = places c.serve_sites.new.disks c.serve_sites.new.sites c.serve_sites.new.link c.serve_sites.new.out in
    let end = subst (λ (held : List TheSite). EndsFrom w config c.args.turns c.serve_sites.result (places c.open.new.disks held c.open.new.link c.open.new.out) new) c.deref_mut.ensures.value c.serve_sites.ensures in
    turns_end w config.cluster c.args.disks.now c.open.new.disks has.finish.did.passes.told config c.args.first (c.args.last + 1) has.logs c.args.turns c.serve_sites.result
    (places c.open.new.disks c.in_ok-sites.sites.items c.open.new.link c.open.new.out) new refl has.follow has.many c.in_ok-sites.ensures.logs (end (map site_of has.logs) has.finish.stand has.ascend)

-- ---- the disks of other centres

pub returns-in_err-sites-clause-others : goal.returns-in_err-sites-clause-others
returns-in_err-sites-clause-others g c = c.in_err-sites.ensures.fails.others

pub returns-clause-others : goal.returns-clause-others
returns-clause-others g c =
    let w = outside c.args.config.now.checkpoint g.D.Disks.disk g.D.Disks.may_leave g.L.Link.calls g.L.Link.lost g.L.Link.faults g.O.Sink.held g.O.Sink.faults in
    let config = c.args.config.now in
    let new = places c.serve_sites.new.disks c.serve_sites.new.sites c.serve_sites.new.link c.serve_sites.new.out in
    serve_others w config c.args.first c.args.last c.args.turns c.serve_sites.result (places c.args.disks.now [] c.args.link.now c.args.out.now) (places c.open.new.disks c.in_ok-sites.sites.items c.open.new.link c.open.new.out) new
    c.in_ok-sites.ensures.opens
    (subst (λ (held : List TheSite). EndsFrom w config c.args.turns c.serve_sites.result (places c.open.new.disks held c.open.new.link c.open.new.out) new) c.deref_mut.ensures.value c.serve_sites.ensures)

-- ---- where a log is refused

pub returns-in_err-sites-clause-refused : goal.returns-in_err-sites-clause-refused
returns-in_err-sites-clause-refused g c =
    let e : c.from_residual.result ≡ Err c.in_err-sites.field-0.0 = search rules in
    rw e (λ refused told. c.in_err-sites.ensures.refused refused)

pub returns-clause-refused : goal.returns-clause-refused
returns-clause-refused g c =
    none_refuses g.D.Disks.disk c.args.config.now.cluster c.args.disks.now c.args.first (c.args.last + 1) c.serve_sites.result _ c.in_ok-sites.ensures.logs (returns-clause-logs g c)

-- ---- where no node boots from one of them

pub returns-in_err-sites-clause-unserved : goal.returns-in_err-sites-clause-unserved
returns-in_err-sites-clause-unserved g c = λ lacks.
    let e : c.from_residual.result ≡ Err c.in_err-sites.field-0.0 = search rules in
    rw e (c.in_err-sites.ensures.unserved lacks)

pub returns-clause-unserved : goal.returns-clause-unserved
returns-clause-unserved g c = λ lacks.
    absurd (lacks_none g.D.Disks.disk c.args.config.now.cluster c.args.disks.now c.args.first (c.args.last + 1) lacks c.in_ok-sites.ensures.logs)
