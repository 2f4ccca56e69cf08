use Rattle.std.proofs.Common.{◌≡◌, ◌++◌, Result, Err, ap, subst, sym}
use Rattle.std.proofs.lemmas.Result.{err_from_is_err_and}
use Rattle.mdcc_def_rules.specs.Steps.{with_new}
use Rattle.mdcc_def_server_runs.specs.Runs.{listed}
use Rattle.mdcc_def_server_runs.specs.Steps.{step_queued, stepped}
use Rattle.mdcc_serve_site.proofs.Becoming.{each_append, each_listed, lacks_by, queued_becomes, same_pending}
use Rattle.mdcc_node_log.specs.Nodes.{IsNodeOf}
use Rattle.mdcc_serve_site.specs.SiteState.{Becomes, CanBeSent}
use Rattle.mdcc_serve_site.specs.declared.fault.ServeFault.{ServeFault}
use Rattle.mdcc_serve_site.specs.declared.site.Site.{Site as TheSite}
use Rattle.mdcc_serve_site.proofs.site.Site.queue_step.Goals as goal

pub returns-in_err-queue : goal.returns-in_err-queue
returns-in_err-queue c cluster site made st fact heard =
    let p = err_from_is_err_and c.from_residual.result c.from_residual.ensures.1 in
    let e : c.from_residual.result ≡ Err c.in_err-queue.field-0.0 = cc (p.1, p.2) in
    subst (λ (r : Result (Unit {0}) ServeFault). Becomes cluster site (stepped (step_queued site made (c.args.step.now.sends ++ listed c.args.reply.now))) r c.args.self.now c.queue.new.self) (sym e)
    (lacks_by c.in_err-queue.field-0.0 c.in_err-queue.ensures.memory (same_pending c.args.self.now c.queue.new.self c.queue.ensures.same))

pub returns : goal.returns
returns c cluster site made st fact heard =
    let mid = c.queue.new.self in
    let node = ap (λ (h : TheSite). h.node) c.queue.ensures.same in
    let epoch = c.count_step.ensures.epoch cluster site.centre (with_new site.node.facts made.fact) made.after
    (subst (λ n. IsNodeOf n cluster site.centre (with_new site.node.facts made.fact) made.after) (sym node) st.node) in
    queued_becomes cluster site made c.args.self.now st c.args.step.now (c.args.step.now.sends ++ listed c.args.reply.now) mid c.count_step.new.self fact heard
    (each_append CanBeSent c.args.step.now.sends (listed c.args.reply.now) c.requires.sends (each_listed CanBeSent c.args.reply.now c.requires.reply))
    c.queue.ensures.same c.in_ok-queue.ensures.payloads c.in_ok-queue.ensures.messages c.in_ok-queue.ensures.heard
    c.count_step.ensures.same c.count_step.ensures.steps epoch
