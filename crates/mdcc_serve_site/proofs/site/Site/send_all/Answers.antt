use Rattle.std.proofs.Common.{◌≡◌, Result, Err, refl, subst, sym}
use Rattle.std.proofs.lemmas.Result.{err_from_is_err_and}
use Rattle.mdcc_serve_site.proofs.Outlets.{sends_all, sends_some}
use Rattle.mdcc_serve_site.specs.SiteState.{SendsOut}
use Rattle.mdcc_serve_site.specs.declared.fault.ServeFault.{ServeFault}
use Rattle.mdcc_serve_site.proofs.site.Site.send_all.Goals as goal

pub returns-in_err-send_all-clause-sent : goal.returns-in_err-send_all-clause-sent
returns-in_err-send_all-clause-sent g c site envelopes is are =
    let p = err_from_is_err_and c.from_residual.result c.from_residual.ensures.1 in
    let e : c.from_residual.result ≡ Err ServeFault.Serial = cc (p.1, p.2) in
    subst (λ (r : Result (Unit {0}) ServeFault). SendsOut g.L.Link.calls g.L.Link.lost g.L.Link.faults c.args.config.now site envelopes r c.args.link.now c.send_all.new.link c.args.self.now.sender c.send_all.new.self) (sym e)
    (sends_some g.L.Link.calls g.L.Link.lost g.L.Link.faults c.args.config.now site c.args.messages.now envelopes are ServeFault.Serial c.args.link.now c.send_all.new.link c.args.self.now.sender c.send_all.new.self
    refl (c.in_err-send_all.ensures.serial site is) (c.in_err-send_all.ensures.past site is))

pub returns-clause-sent : goal.returns-clause-sent
returns-clause-sent g c site envelopes is are =
    sends_all g.L.Link.calls g.L.Link.lost g.L.Link.faults c.args.config.now site c.args.messages.now envelopes are c.args.link.now c.send_all.new.link c.args.self.now.sender c.send_all.new.self
    (c.in_ok-send_all.ensures.sent site is) (c.in_ok-send_all.ensures.next site is)
