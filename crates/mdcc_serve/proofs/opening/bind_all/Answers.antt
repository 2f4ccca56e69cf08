use Rattle.std.proofs.Common.{◌≡◌, ℕ, suc, ◌+◌, ◌≤◌, List, Err, arith, rules, subst, sym, take}
use Rattle.mdcc_def_server_runs.specs.Acts.{Act}
use Rattle.mdcc_serve.proofs.Bound.{acts_all, acts_more, acts_split, binds_none, binds_stop, binds_then, each_at}
use Rattle.mdcc_serve.specs.Openings.{BindsAll, BindsSome, binds_of, binds_of_all}
use Rattle.mdcc_serve_site.specs.declared.site.Site.{Site}
use Rattle.mdcc_serve.proofs.opening.bind_all.Goals as goal

pub loop-site-init : goal.loop-site-init
loop-site-init g c = binds_none g.L.Link.calls g.L.Link.lost g.L.Link.faults c.args.link.now

pub bind-requires-clause-among : goal.bind-requires-clause-among
bind-requires-clause-among g c =
    each_at (λ (site : Site). site.centre ≤ c.args.config.now.cluster.quorums.centres) c.args.sites.now c.loop-site.site-index c.site-item.result (omega arith) c.site-item.is c.requires.among

pub loop-site-preserved : goal.loop-site-preserved
loop-site-preserved g c =
    let config = c.args.config.now in
    let next : suc c.loop-site.site-index ≡ c.loop-site.site-index + 1 = omega arith in
    subst (λ (n : ℕ). BindsAll g.L.Link.calls g.L.Link.lost g.L.Link.faults (binds_of_all config (take n c.args.sites.now)) c.args.link.now c.bind.new.link) next
    (subst (λ (acts : List Act). BindsAll g.L.Link.calls g.L.Link.lost g.L.Link.faults acts c.args.link.now c.bind.new.link)
    (sym (acts_more (λ (site : Site). binds_of config site.centre) c.args.sites.now c.loop-site.site-index c.site-item.result (omega arith) c.site-item.is))
    (binds_then g.L.Link.calls g.L.Link.lost g.L.Link.faults (binds_of_all config (take c.loop-site.site-index c.args.sites.now)) (binds_of config c.site-item.result.centre) c.args.link.now c.loop-site.link c.bind.new.link
    c.loop-site.invariant c.in_ok-bind.ensures))

pub returns-in_err-bind : goal.returns-in_err-bind
returns-in_err-bind g c =
    let config = c.args.config.now in
    let split = acts_split (λ (site : Site). binds_of config site.centre) c.args.sites.now c.loop-site.site-index c.site-item.result (omega arith) c.site-item.is in
    let e : c.from_residual.result ≡ Err c.in_err-bind.field-0.0 = search rules in
    rw e (subst (λ (acts : List Act). BindsSome g.L.Link.calls g.L.Link.lost g.L.Link.faults acts c.in_err-bind.field-0.0 c.args.link.now c.bind.new.link) (sym split.1)
    (binds_stop g.L.Link.calls g.L.Link.lost g.L.Link.faults (binds_of_all config (take c.loop-site.site-index c.args.sites.now)) (binds_of config c.site-item.result.centre) split.0 c.in_err-bind.field-0.0 c.args.link.now c.loop-site.link c.bind.new.link
    c.loop-site.invariant c.in_err-bind.ensures))

pub returns : goal.returns
returns g c =
    subst (λ (acts : List Act). BindsAll g.L.Link.calls g.L.Link.lost g.L.Link.faults acts c.args.link.now c.loop-site.link)
    (acts_all (λ (site : Site). binds_of c.args.config.now site.centre) c.args.sites.now c.loop-site.site-index (omega arith)) c.loop-site.invariant
