use Rattle.std.proofs.Common.{◌≡◌, ℕ, suc, ◌+◌, ◌∷◌, [], List, Err, arith, rules, subst, sym, take}
use Rattle.mdcc_def_server_runs.specs.Acts.{Act}
use Rattle.mdcc_def_server_runs.specs.declared.lines.ServerLine.{ServerLine}
use Rattle.mdcc_serve.proofs.Bound.{acts_all, acts_more, acts_split, lines_none, lines_stop, lines_then}
use Rattle.mdcc_serve.specs.Openings.{LinesSome, boots_told}
use Rattle.mdcc_serve_site.specs.SiteState.{PrintsAll}
use Rattle.mdcc_serve_site.specs.declared.site.Site.{Site}
use Rattle.mdcc_serve.proofs.opening.tell_boots.Goals as goal

-- the line of a centre
abbrev told : Site → List Act
told site = Act.Print (ServerLine.Booted site.centre site.sender.epoch) ∷ []

pub loop-site-init : goal.loop-site-init
loop-site-init g c = lines_none g.O.Sink.held g.O.Sink.faults c.args.out.now

pub loop-site-preserved : goal.loop-site-preserved
loop-site-preserved g c =
    let next : suc c.loop-site.site-index ≡ c.loop-site.site-index + 1 = omega arith in
    subst (λ (n : ℕ). PrintsAll g.O.Sink.held g.O.Sink.faults (boots_told (take n c.args.sites.now)) c.args.out.now c.print_line.new.out) next
    (subst (λ (acts : List Act). PrintsAll g.O.Sink.held g.O.Sink.faults acts c.args.out.now c.print_line.new.out)
    (sym (acts_more told c.args.sites.now c.loop-site.site-index c.site-item.result (omega arith) c.site-item.is))
    (lines_then g.O.Sink.held g.O.Sink.faults (boots_told (take c.loop-site.site-index c.args.sites.now)) (told c.site-item.result) c.args.out.now c.loop-site.out c.print_line.new.out c.loop-site.invariant c.in_ok-print_line.ensures))

pub returns-in_err-print_line : goal.returns-in_err-print_line
returns-in_err-print_line g c =
    let split = acts_split told c.args.sites.now c.loop-site.site-index c.site-item.result (omega arith) c.site-item.is in
    let e : c.from_residual.result ≡ Err c.in_err-print_line.field-0.0 = search rules in
    rw e (subst (λ (acts : List Act). LinesSome g.O.Sink.held g.O.Sink.faults acts c.in_err-print_line.field-0.0 c.args.out.now c.print_line.new.out) (sym split.1)
    (lines_stop g.O.Sink.held g.O.Sink.faults (boots_told (take c.loop-site.site-index c.args.sites.now)) (told c.site-item.result) split.0 c.in_err-print_line.field-0.0 c.args.out.now c.loop-site.out c.print_line.new.out
    c.loop-site.invariant c.in_err-print_line.ensures))

pub returns : goal.returns
returns g c =
    subst (λ (acts : List Act). PrintsAll g.O.Sink.held g.O.Sink.faults acts c.args.out.now c.loop-site.out)
    (acts_all told c.args.sites.now c.loop-site.site-index (omega arith)) c.loop-site.invariant
