use Rattle.std.proofs.Common.{Bool, subst, sym}
use Rattle.mdcc_def_server_runs.specs.Turns.{released}
use Rattle.mdcc_serve_site.proofs.Logged.{either_same}
use Rattle.mdcc_serve_site.proofs.Turned.{idle_goes}
use Rattle.mdcc_serve_site.specs.AnyMoment.{LeavesEither}
use Rattle.mdcc_serve_site.specs.Moments.{outside}
use Rattle.mdcc_serve_site.specs.SiteState.{Finishes, Goes, place}
use Rattle.mdcc_serve_site.proofs.site.Site.release.Goals as goal

pub returns-then-held-clause-goes : goal.returns-then-held-clause-goes
returns-then-held-clause-goes g c site stands =
    let w = (outside c.args.config.now.checkpoint g.D.Disks.disk g.D.Disks.may_leave g.L.Link.calls g.L.Link.lost g.L.Link.faults g.O.Sink.held g.O.Sink.faults) in
    let config = c.args.config.now in
    let at = place c.args.disks.now c.args.self.now c.args.link.now c.args.out.now in
    subst (λ (held : Bool). Finishes w config.cluster site (released config held site) at at) (sym c.if-held.true)
    (idle_goes w config.cluster site c.args.disks.now c.args.self.now c.args.link.now c.args.out.now stands)

pub returns-clause-goes : goal.returns-clause-goes
returns-clause-goes g c site stands =
    let w = (outside c.args.config.now.checkpoint g.D.Disks.disk g.D.Disks.may_leave g.L.Link.calls g.L.Link.lost g.L.Link.faults g.O.Sink.held g.O.Sink.faults) in
    let config = c.args.config.now in
    subst (λ (held : Bool). Goes w config.cluster site (released config held site) c.persist_then_send.result (place c.args.disks.now c.args.self.now c.args.link.now c.args.out.now)
    (place c.persist_then_send.new.disks c.persist_then_send.new.self c.persist_then_send.new.link c.persist_then_send.new.out))
    (sym c.if-held.false) (c.persist_then_send.ensures.goes site stands)

pub returns-then-held-clause-any_moment : goal.returns-then-held-clause-any_moment
returns-then-held-clause-any_moment g c site stands =
    either_same g.D.Disks.disk g.D.Disks.may_leave g.D.Disks.moment g.D.Disks.left_since g.met.D.Disks.only_now c.args.disks.now c.args.self.now.log site.centre site.logged (released c.args.config.now c.args.held site).site.logged stands.log.open_log

pub returns-clause-any_moment : goal.returns-clause-any_moment
returns-clause-any_moment g c site stands =
    subst (λ (held : Bool). LeavesEither g.D.Disks.disk g.D.Disks.moment g.D.Disks.left_since site.centre site.logged (released c.args.config.now held site).site.logged c.args.disks.now c.persist_then_send.new.disks)
    (sym c.if-held.false) (c.persist_then_send.ensures.any_moment site stands)
