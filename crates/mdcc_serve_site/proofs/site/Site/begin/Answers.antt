use Rattle.std.proofs.Common.{◌≡◌, ◌∙◌, ◌++◌, ℕ, List, Option, Result, Err, ap, arith, refl, subst, sym}
use Rattle.std.proofs.lemmas.Result.{err_from_is_err_and}
use Rattle.std.specs.List.{AllByRecursion}
use Rattle.std.specs.Prelude.{IfSome}
use Rattle.mdcc_journal.specs.Counts.{HasCounts}
use Rattle.mdcc_def_messages.specs.declared.facts.Fact.{Fact}
use Rattle.mdcc_def_messages.specs.declared.messages.Envelope.{Envelope}
use Rattle.mdcc_def_rules.specs.declared.node.Answer.{Answer}
use Rattle.mdcc_def_rules.specs.declared.node.Input.{Input}
use Rattle.mdcc_def_rules.specs.declared.node.Step.{Step}
use Rattle.mdcc_def_server_runs.specs.Runs.{listed, step_on}
use Rattle.mdcc_def_server_runs.specs.Sites.{Doing}
use Rattle.mdcc_def_server_runs.specs.Steps.{begin_made, begin_noted, begin_told, step_queued, stepped}
use Rattle.mdcc_serve_site.proofs.Becoming.{becomes_from, counts_of, lacks_by, refusal_becomes, same_clients, same_node, same_then}
use Rattle.mdcc_serve_site.proofs.Noted.{begin_can, noted_only, stepped_noted}
use Rattle.mdcc_serve_site.specs.SiteState.{Becomes, CanBeSent}
use Rattle.mdcc_serve_site.specs.declared.fault.ServeFault.{ServeFault}
use Rattle.mdcc_serve_site.proofs.site.Site.begin.Goals as goal

pub act_on-requires-clause-input : goal.act_on-requires-clause-input
act_on-requires-clause-input c = (c.requires.parts, omega arith)

pub returns-in_err-note_begin-in-Ok : goal.returns-in_err-note_begin-in-Ok
returns-in_err-note_begin-in-Ok c cluster site stands =
    let did = begin_made site c.args.serial (step_on cluster site.centre site.node (Input.Begin c.args.transaction)) in
    let p = err_from_is_err_and c.from_residual.result c.from_residual.ensures.1 in
    let e : c.from_residual.result ≡ Err c.in_err-note_begin-in-Ok.field-0.0 = cc (p.1, p.2) in
    subst (λ (r : Result (Unit {0}) ServeFault). Becomes cluster site did r c.args.self.now c.note_begin.new.self) (sym e)
    (lacks_by c.in_err-note_begin-in-Ok.field-0.0 c.in_err-note_begin-in-Ok.ensures.memory
    (same_then (same_node c.args.self.now c.act_on.new.self c.act_on.ensures.same) (same_clients c.act_on.new.self c.note_begin.new.self c.note_begin.ensures.same)))

pub queue_step-requires-clause-fact : goal.queue_step-requires-clause-fact
queue_step-requires-clause-fact c =
    let acted = c.in-Ok.ensures.acted c.requires.served.0 c.requires.served.1 c.requires.served.2 in
    subst (λ (o : Option Fact). IfSome o HasCounts) (sym (ap (λ (s : Step). s.fact) acted.2)) (counts_of acted.0.fact acted.3.fact)

pub queue_step-requires-clause-sends : goal.queue_step-requires-clause-sends
queue_step-requires-clause-sends c =
    let acted = c.in-Ok.ensures.acted c.requires.served.0 c.requires.served.1 c.requires.served.2 in
    subst (λ (xs : List Envelope). AllByRecursion CanBeSent xs) (sym (ap (λ (s : Step). s.sends) acted.2)) acted.3.sends

pub queue_step-requires-clause-reply : goal.queue_step-requires-clause-reply
queue_step-requires-clause-reply c = subst (λ (o : Option Envelope). IfSome o CanBeSent) (sym c.begin_told-reply.ensures) (begin_can _ _ _)

pub returns-in-Ok : goal.returns-in-Ok
returns-in-Ok c cluster site stands =
    let serial = c.args.serial in
    let acted = c.in-Ok.ensures.acted cluster site stands in
    let answer : c.act_on.new.step.answer ≡ acted.0.answer = ap (λ (s : Step). s.answer) acted.2 in
    let took : c.take.result ≡ acted.0.answer = c.take.ensures.value ∙ answer in
    let noted = begin_noted site serial acted.0.answer in
    let only = noted_only site serial acted.0.answer in
    let new = c.note_begin.new.self in
    let same = c.note_begin.ensures.same in
    let clients = c.in_ok-note_begin-in-Ok.ensures.noted site acted.3.clients ∙ ap (λ (o : Option Answer). (begin_noted site serial o).clients) answer in
    let centre : new.centre ≡ site.centre = ap (λ h. h.centre) same ∙ acted.3.centre in
    let told : c.begin_told-reply.result ≡ begin_told site.centre serial acted.0.answer =
    c.begin_told-reply.ensures ∙ (ap (λ (n : ℕ). begin_told n serial c.take.result) centre ∙ ap (λ (o : Option Answer). begin_told site.centre serial o) took) in
    let reply = c.begin_told-reply.result in
    let out = c.queue_step.ensures cluster noted acted.0 (stepped_noted cluster c.act_on.new.self new site noted acted.0 only same clients acted.3)
    (ap (λ (s : Step). s.fact) acted.2) (ap (λ (s : Step). s.heard) acted.2) in
    let e : stepped (step_queued noted acted.0 (c.act_on.new.step.sends ++ listed reply)) ≡ begin_made site serial (step_on cluster site.centre site.node (Input.Begin c.args.transaction)) =
    ap (λ (s : Step). stepped (step_queued noted acted.0 (s.sends ++ listed reply))) acted.2
    ∙ (ap (λ (o : Option Envelope). stepped (step_queued noted acted.0 (acted.0.sends ++ listed o))) told ∙ ap (begin_made site serial) (sym acted.1)) in
    subst (λ (d : Doing). Becomes cluster site d c.queue_step.result c.args.self.now c.queue_step.new.self) e
    (becomes_from cluster _ c.queue_step.result site noted c.args.self.now new c.queue_step.new.self only.centre only.logged
    (same_then (same_node c.args.self.now c.act_on.new.self c.act_on.ensures.same) (same_clients c.act_on.new.self new same)) out)

pub returns : goal.returns
returns c cluster site stands =
    let new = c.act_on.new.self in
    let expected = step_on cluster site.centre site.node (Input.Begin c.args.transaction) in
    becomes_from cluster (begin_made site c.args.serial expected) c.refuse.result site site c.args.self.now new c.refuse.new.self refl refl (same_node c.args.self.now new c.act_on.ensures.same)
    (refusal_becomes cluster site expected c.act_on.new.step c.in-Err.fault new c.refuse.new.self c.refuse.result (begin_made site c.args.serial expected)
    c.refuse.ensures (c.in-Err.ensures.acted cluster site stands) (λ is. ap (begin_made site c.args.serial) is))
