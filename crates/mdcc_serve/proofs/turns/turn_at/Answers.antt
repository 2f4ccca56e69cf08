use Rattle.std.proofs.Common.{refl, subst, sym}
use Rattle.mdcc_def_server_runs.specs.Turns.{turn_of}
use Rattle.mdcc_serve_site.specs.Moments.{outside}
use Rattle.mdcc_serve_site.specs.SiteState.{Goes, HoldsSite, IsServed, place}
use Rattle.mdcc_serve_site.specs.declared.site.Site.{Site as TheSite}
use Rattle.mdcc_serve.proofs.turns.turn_at.Goals as goal

pub turn-requires-clause-served : goal.turn-requires-clause-served
turn-requires-clause-served g c =
    let w = outside c.args.config.now.checkpoint g.D.Disks.disk g.D.Disks.may_leave g.L.Link.calls g.L.Link.lost g.L.Link.faults g.O.Sink.held g.O.Sink.faults in
    let here = c.requires.served in
    let is = here.is c.index-sites-index.result in
    subst (λ (held : TheSite). IsServed w c.args.config.now.cluster c.args.disks.now held) (sym is) here.served

pub returns : goal.returns
returns g c one site at holds =
    let w = outside c.args.config.now.checkpoint g.D.Disks.disk g.D.Disks.may_leave g.L.Link.calls g.L.Link.lost g.L.Link.faults g.O.Sink.held g.O.Sink.faults in
    let config = c.args.config.now in
    let is = at c.index-sites-index.result in
    let turn = c.turn.ensures site (subst (λ (held : TheSite). HoldsSite w config.cluster c.args.disks.now held site) (sym is) holds) in
    record {
      given = turn.0;
      next = c.turn.new.self;
      held = refl;
      goes = subst (λ (held : TheSite). Goes w config.cluster site (turn_of config site turn.0) c.turn.result (place c.args.disks.now held c.args.link.now c.args.out.now) (place c.turn.new.disks c.turn.new.self c.turn.new.link c.turn.new.out)) is turn.1;
      waits = turn.2;
    }
