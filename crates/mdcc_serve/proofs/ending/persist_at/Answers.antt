use Rattle.std.proofs.Common.{refl, subst, sym}
use Rattle.mdcc_def_server_runs.specs.Sending.{persist_then_send}
use Rattle.mdcc_serve_site.specs.Moments.{outside}
use Rattle.mdcc_serve_site.specs.SiteState.{Goes, HoldsSite, IsServed, place}
use Rattle.mdcc_serve_site.specs.declared.site.Site.{Site as TheSite}
use Rattle.mdcc_serve.proofs.ending.persist_at.Goals as goal

pub persist_then_send-requires-clause-served : goal.persist_then_send-requires-clause-served
persist_then_send-requires-clause-served g c =
    let w = outside c.args.config.now.checkpoint g.D.Disks.disk g.D.Disks.may_leave g.L.Link.calls g.L.Link.lost g.L.Link.faults g.O.Sink.held g.O.Sink.faults in
    let here = c.requires.served in
    let is = here.is c.index-sites-index.result in
    subst (λ (held : TheSite). IsServed w c.args.config.now.cluster c.args.disks.now held) (sym is) here.served

pub returns : goal.returns
returns g c one site at holds =
    let w = outside c.args.config.now.checkpoint g.D.Disks.disk g.D.Disks.may_leave g.L.Link.calls g.L.Link.lost g.L.Link.faults g.O.Sink.held g.O.Sink.faults in
    let config = c.args.config.now in
    let is = at c.index-sites-index.result in
    let went = c.persist_then_send.ensures.goes site (subst (λ (held : TheSite). HoldsSite w config.cluster c.args.disks.now held site) (sym is) holds) in
    record {
      next = c.persist_then_send.new.self;
      held = refl;
      goes = subst (λ (held : TheSite). Goes w config.cluster site (persist_then_send config site) c.persist_then_send.result (place c.args.disks.now held c.args.link.now c.args.out.now) (place c.persist_then_send.new.disks c.persist_then_send.new.self c.persist_then_send.new.link c.persist_then_send.new.out)) is went;
    }
