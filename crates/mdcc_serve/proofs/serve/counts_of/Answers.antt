use Rattle.std.proofs.Common.{◌≡◌, ◌∙◌, ℕ, suc, ◌+◌, List, ap, arith, subst, take}
use Rattle.mdcc_serve.proofs.Totals.{counts_more, take_all}
use Rattle.mdcc_serve.specs.Totals.{counts_of, with_counts}
use Rattle.mdcc_serve.specs.declared.served.Served.{Served}
use Rattle.mdcc_serve_site.specs.declared.site.Site.{Site as TheSite}
use Rattle.mdcc_serve.proofs.serve.counts_of.Goals as goal

pub loop-site-preserved : goal.loop-site-preserved
loop-site-preserved c =
    let next : suc c.loop-site.site-index ≡ c.loop-site.site-index + 1 = omega arith in
    subst (λ (n : ℕ). c.with_counts-served.result ≡ counts_of c.args.turns (take n c.args.sites.now)) next
    (c.with_counts-served.ensures
    ∙ (ap (λ (s : Served). with_counts s c.site-item.result) c.loop-site.invariant
    ∙ counts_more c.args.turns c.args.sites.now c.loop-site.site-index c.site-item.result (omega arith) c.site-item.is))

pub returns : goal.returns
returns c =
    subst (λ (held : List TheSite). c.loop-site.served ≡ counts_of c.args.turns held) (take_all c.args.sites.now c.loop-site.site-index (omega arith)) c.loop-site.invariant
