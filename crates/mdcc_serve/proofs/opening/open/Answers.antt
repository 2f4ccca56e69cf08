use Rattle.std.proofs.Common.{◌≡◌, ◌+◌, ◌≤◌, List, Err, arith, length, refl, rules, subst, sym, inl, inr}
use Rattle.std.specs.List.{AllByRecursion}
use Rattle.mdcc_serve.proofs.Ready.{bind_fails, held_among, opens_all, start_fails, tell_fails}
use Rattle.mdcc_serve.specs.Openings.{BindsAll, BindsSome, LinesSome, binds_of_all, boots_told}
use Rattle.mdcc_serve_site.specs.Moments.{outside}
use Rattle.mdcc_serve_site.specs.SiteState.{PrintsAll}
use Rattle.mdcc_serve_site.specs.declared.site.Site.{Site}
use Rattle.mdcc_serve.proofs.Refused.{binding_ends, telling_ends}
use Rattle.mdcc_serve.proofs.Full.{lacks_none}
use Rattle.mdcc_serve.proofs.Untaken.{bind_refuses, line_refuses, start_refuses}
use Rattle.mdcc_serve.proofs.opening.open.Goals as goal

pub returns-in_err-sites-clause-fails : goal.returns-in_err-sites-clause-fails
returns-in_err-sites-clause-fails g c =
    let w = outside c.args.config.now.checkpoint g.D.Disks.disk g.D.Disks.may_leave g.L.Link.calls g.L.Link.lost g.L.Link.faults g.O.Sink.held g.O.Sink.faults in
    let e : c.from_residual.result ≡ Err c.in_err-sites.field-0.0 = search rules in
    rw e (start_fails w g.D.Disks.tears c.args.config.now c.args.first c.args.last c.in_err-sites.field-0.0 c.args.disks.now c.start_all.new.disks c.args.link.now c.args.out.now c.requires.order c.in_err-sites.ensures.fails)

pub bind_all-requires-clause-among : goal.bind_all-requires-clause-among
bind_all-requires-clause-among g c =
    let config = c.args.config.now in
    let held = c.in_ok-sites.sites.items in
    let started = c.in_ok-sites.ensures.starts in
    let many : length held + c.args.first ≡ c.args.last + 1 = c.in_ok-sites.ensures.as_many in
    let among : c.args.last ≤ config.cluster.quorums.centres = c.requires.among in
    subst (λ (sites : List Site). AllByRecursion (λ (site : Site). site.centre ≤ config.cluster.quorums.centres) sites) (sym c.as_slice.ensures.value)
    (held_among g.D.Disks.disk g.D.Disks.may_leave c.args.config.now.checkpoint config.cluster c.start_all.new.disks c.args.first config.cluster.quorums.centres held started.logs started.each started.follow (omega (many, among, arith)))

pub returns-in_err-bind_all-clause-fails : goal.returns-in_err-bind_all-clause-fails
returns-in_err-bind_all-clause-fails g c =
    let w = outside c.args.config.now.checkpoint g.D.Disks.disk g.D.Disks.may_leave g.L.Link.calls g.L.Link.lost g.L.Link.faults g.O.Sink.held g.O.Sink.faults in
    let config = c.args.config.now in
    let among : c.args.last ≤ config.cluster.quorums.centres = c.requires.among in
    let nine : config.cluster.quorums.centres ≤ 9 = c.requires.config.quorums.nine_centres in
    let e : c.from_residual-in_err-bind_all.result ≡ Err c.in_err-bind_all.field-0.0 = search rules in
    rw e (bind_fails w g.D.Disks.tears config c.args.first c.args.last c.in_ok-sites.sites.items c.args.disks.now c.start_all.new.disks c.args.link.now c.args.out.now
    c.in_ok-sites.ensures.starts c.in_ok-sites.ensures.as_many c.requires.some (omega (among, nine, arith)) c.in_err-bind_all.field-0.0 c.bind_all.new.link
    (subst (λ (sites : List Site). BindsSome g.L.Link.calls g.L.Link.lost g.L.Link.faults (binds_of_all config sites) c.in_err-bind_all.field-0.0 c.args.link.now c.bind_all.new.link) c.as_slice.ensures.value c.in_err-bind_all.ensures))

pub returns-in_err-tell_boots-clause-fails : goal.returns-in_err-tell_boots-clause-fails
returns-in_err-tell_boots-clause-fails g c =
    let w = outside c.args.config.now.checkpoint g.D.Disks.disk g.D.Disks.may_leave g.L.Link.calls g.L.Link.lost g.L.Link.faults g.O.Sink.held g.O.Sink.faults in
    let config = c.args.config.now in
    let among : c.args.last ≤ config.cluster.quorums.centres = c.requires.among in
    let nine : config.cluster.quorums.centres ≤ 9 = c.requires.config.quorums.nine_centres in
    let e : c.from_residual-in_err-tell_boots.result ≡ Err c.in_err-tell_boots.field-0.0 = search rules in
    rw e (tell_fails w g.D.Disks.tears config c.args.first c.args.last c.in_ok-sites.sites.items c.args.disks.now c.start_all.new.disks c.args.link.now c.args.out.now
    c.in_ok-sites.ensures.starts c.in_ok-sites.ensures.as_many c.requires.some (omega (among, nine, arith)) c.in_err-tell_boots.field-0.0 c.bind_all.new.link c.tell_boots.new.out
    (subst (λ (sites : List Site). BindsAll g.L.Link.calls g.L.Link.lost g.L.Link.faults (binds_of_all config sites) c.args.link.now c.bind_all.new.link) c.as_slice.ensures.value c.in_ok-bind_all.ensures)
    (subst (λ (sites : List Site). LinesSome g.O.Sink.held g.O.Sink.faults (boots_told sites) c.in_err-tell_boots.field-0.0 c.args.out.now c.tell_boots.new.out) c.as_slice-2.ensures.value c.in_err-tell_boots.ensures))

pub returns-clause-opens : goal.returns-clause-opens
returns-clause-opens g c =
    let w = outside c.args.config.now.checkpoint g.D.Disks.disk g.D.Disks.may_leave g.L.Link.calls g.L.Link.lost g.L.Link.faults g.O.Sink.held g.O.Sink.faults in
    let config = c.args.config.now in
    let among : c.args.last ≤ config.cluster.quorums.centres = c.requires.among in
    let nine : config.cluster.quorums.centres ≤ 9 = c.requires.config.quorums.nine_centres in
    opens_all w g.D.Disks.tears config c.args.first c.args.last c.in_ok-sites.sites.items c.args.disks.now c.start_all.new.disks c.args.link.now c.args.out.now
    c.in_ok-sites.ensures.starts c.in_ok-sites.ensures.as_many c.requires.some (omega (among, nine, arith)) c.bind_all.new.link c.tell_boots.new.out
    (subst (λ (sites : List Site). BindsAll g.L.Link.calls g.L.Link.lost g.L.Link.faults (binds_of_all config sites) c.args.link.now c.bind_all.new.link) c.as_slice.ensures.value c.in_ok-bind_all.ensures)
    (subst (λ (sites : List Site). PrintsAll g.O.Sink.held g.O.Sink.faults (boots_told sites) c.args.out.now c.tell_boots.new.out) c.as_slice-2.ensures.value c.in_ok-tell_boots.ensures)

-- ---- what is said of their logs

pub returns-in_err-sites-clause-logs : goal.returns-in_err-sites-clause-logs
returns-in_err-sites-clause-logs g c =
    let e : c.from_residual.result ≡ Err c.in_err-sites.field-0.0 = search rules in
    rw e (inl c.in_err-sites.ensures.ends)

pub returns-in_err-bind_all-clause-logs : goal.returns-in_err-bind_all-clause-logs
returns-in_err-bind_all-clause-logs g c =
    let e : c.from_residual-in_err-bind_all.result ≡ Err c.in_err-bind_all.field-0.0 = search rules in
    rw e (inr (binding_ends g.D.Disks.disk c.args.config.now.cluster c.args.disks.now g.L.Link.calls g.L.Link.lost g.L.Link.faults (binds_of_all c.args.config.now c.as_slice.result.now) c.in_err-bind_all.field-0.0
    c.args.link.now c.bind_all.new.link c.args.first (c.args.last + 1) c.in_ok-sites.ensures.nodes c.in_err-bind_all.ensures))

pub returns-in_err-tell_boots-clause-logs : goal.returns-in_err-tell_boots-clause-logs
returns-in_err-tell_boots-clause-logs g c =
    let e : c.from_residual-in_err-tell_boots.result ≡ Err c.in_err-tell_boots.field-0.0 = search rules in
    rw e (inr (telling_ends g.D.Disks.disk c.args.config.now.cluster c.args.disks.now g.O.Sink.held g.O.Sink.faults (boots_told c.as_slice-2.result.now) c.in_err-tell_boots.field-0.0
    c.args.out.now c.tell_boots.new.out c.args.first (c.args.last + 1) c.in_ok-sites.ensures.nodes c.in_err-tell_boots.ensures))

pub returns-clause-logs : goal.returns-clause-logs
returns-clause-logs g c = c.in_ok-sites.ensures.nodes

-- ---- where a log is refused

pub returns-in_err-sites-clause-refused : goal.returns-in_err-sites-clause-refused
returns-in_err-sites-clause-refused g c =
    let e : c.from_residual.result ≡ Err c.in_err-sites.field-0.0 = search rules in
    rw e (start_refuses g.D.Disks.disk g.D.Disks.may_leave g.D.Disks.tears c.args.config.now.cluster g.L.Link.calls g.L.Link.lost c.args.first (c.args.last + 1) c.args.disks.now c.start_all.new.disks c.args.link.now c.args.out.now c.in_err-sites.field-0.0 c.in_err-sites.ensures.stay)

pub returns-in_err-bind_all-clause-refused : goal.returns-in_err-bind_all-clause-refused
returns-in_err-bind_all-clause-refused g c =
    let e : c.from_residual-in_err-bind_all.result ≡ Err c.in_err-bind_all.field-0.0 = search rules in
    rw e (λ refused. absurd (bind_refuses g.L.Link.calls g.L.Link.lost g.L.Link.faults (binds_of_all c.args.config.now c.as_slice.result.now) c.in_err-bind_all.field-0.0 c.args.link.now c.bind_all.new.link c.in_err-bind_all.ensures refused))

pub returns-in_err-tell_boots-clause-refused : goal.returns-in_err-tell_boots-clause-refused
returns-in_err-tell_boots-clause-refused g c =
    let e : c.from_residual-in_err-tell_boots.result ≡ Err c.in_err-tell_boots.field-0.0 = search rules in
    rw e (λ refused. absurd (line_refuses g.O.Sink.held g.O.Sink.faults (boots_told c.as_slice-2.result.now) c.in_err-tell_boots.field-0.0 c.args.out.now c.tell_boots.new.out c.in_err-tell_boots.ensures refused))

-- ---- where no node boots from one of them

pub returns-in_err-sites-clause-unserved : goal.returns-in_err-sites-clause-unserved
returns-in_err-sites-clause-unserved g c = λ lacks.
    let e : c.from_residual.result ≡ Err c.in_err-sites.field-0.0 = search rules in
    rw e (record { link = refl; sends = refl; output = refl; logs = c.in_err-sites.ensures.stay; full = c.in_err-sites.ensures.full })

pub returns-in_err-bind_all-clause-unserved : goal.returns-in_err-bind_all-clause-unserved
returns-in_err-bind_all-clause-unserved g c = λ lacks.
    absurd (lacks_none g.D.Disks.disk c.args.config.now.cluster c.args.disks.now c.args.first (c.args.last + 1) lacks c.in_ok-sites.ensures.nodes)

pub returns-in_err-tell_boots-clause-unserved : goal.returns-in_err-tell_boots-clause-unserved
returns-in_err-tell_boots-clause-unserved g c = λ lacks.
    absurd (lacks_none g.D.Disks.disk c.args.config.now.cluster c.args.disks.now c.args.first (c.args.last + 1) lacks c.in_ok-sites.ensures.nodes)

pub returns-clause-unserved : goal.returns-clause-unserved
returns-clause-unserved g c = λ lacks.
    absurd (lacks_none g.D.Disks.disk c.args.config.now.cluster c.args.disks.now c.args.first (c.args.last + 1) lacks c.in_ok-sites.ensures.nodes)
