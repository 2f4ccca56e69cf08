use Rattle.std.proofs.Common.{◌≡◌, ℕ, inr, refl, rules, subst, Err}
use Rattle.std.proofs.lemmas.Result.{err_from_is_err_and}
use Rattle.mdcc_serve.specs.Starts.{HasStarted}
use Rattle.mdcc_serve.specs.Refusals.{BootsAt, SaysAt}
use Rattle.mdcc_serve.proofs.starting.start_next.Goals as goal

pub returns-in_err-push-clause-fails : goal.returns-in_err-push-clause-fails
returns-in_err-push-clause-fails g c =
    let same : c.unwrap-centre.result ≡ c.args.number = search rules in
    let p = err_from_is_err_and c.from_residual-in_err-push.result c.from_residual-in_err-push.ensures.1 in
    rw (p.1, p.2) (inr (
      refl,
      c.in_ok-site.site,
      subst (λ (n : ℕ). HasStarted g.D.Disks.disk g.D.Disks.may_leave c.args.config.now.checkpoint g.D.Disks.tears c.args.config.now.cluster n c.in_ok-site.site c.args.disks.now c.start.new.disks) same c.in_ok-site.ensures.starts,
    ))

pub returns-clause-starts : goal.returns-clause-starts
returns-clause-starts g c =
    let same : c.unwrap-centre.result ≡ c.args.number = search rules in (
      c.in_ok-site.site,
      c.in_ok-push.ensures.items,
      subst (λ (n : ℕ). HasStarted g.D.Disks.disk g.D.Disks.may_leave c.args.config.now.checkpoint g.D.Disks.tears c.args.config.now.cluster n c.in_ok-site.site c.args.disks.now c.start.new.disks) same c.in_ok-site.ensures.starts,
    )

-- ---- what is said of its log

pub returns-in_err-site-clause-says : goal.returns-in_err-site-clause-says
returns-in_err-site-clause-says g c =
    let same : c.unwrap-centre.result ≡ c.args.number = search rules in
    let e : c.from_residual.result ≡ Err c.in_err-site.field-0.0 = search rules in
    rw e (subst (λ (n : ℕ). SaysAt g.D.Disks.disk c.args.config.now.cluster c.args.disks.now n c.in_err-site.field-0.0) same c.in_err-site.ensures.says)

pub returns-clause-node : goal.returns-clause-node
returns-clause-node g c =
    let same : c.unwrap-centre.result ≡ c.args.number = search rules in
    subst (λ (n : ℕ). BootsAt g.D.Disks.disk c.args.config.now.cluster c.args.disks.now n) same c.in_ok-site.ensures.node
