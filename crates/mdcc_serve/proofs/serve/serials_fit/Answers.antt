use Rattle.std.proofs.Common.{◌≡◌, ℕ, suc, ◌+◌, ◌<◌, ◌^◌, List, arith, subst, take}
use Rattle.mdcc_serve.proofs.Totals.{each_more, take_all}
use Rattle.mdcc_serve.specs.Ends.{SerialsFit}
use Rattle.mdcc_serve_site.specs.declared.site.Site.{Site as TheSite}
use Rattle.mdcc_serve.proofs.serve.serials_fit.Goals as goal

pub loop-site-preserved : goal.loop-site-preserved
loop-site-preserved c =
    let next : suc c.loop-site.site-index ≡ c.loop-site.site-index + 1 = omega arith in
    subst (λ (n : ℕ). SerialsFit (take n c.args.sites.now)) next
    (each_more (λ (h : TheSite). h.sender.sent < 2 ^ 32) c.args.sites.now c.loop-site.site-index c.site-item.result (omega arith) c.site-item.is c.loop-site.invariant c.serial_fits.ensures)

pub returns : goal.returns
returns c = subst (λ (held : List TheSite). SerialsFit held) (take_all c.args.sites.now c.loop-site.site-index (omega arith)) c.loop-site.invariant
