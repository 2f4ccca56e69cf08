use Rattle.std.proofs.Common.{◌≡◌, ◌∙◌, ◌++◌, ℕ, List, Option, ap, arith, refl, subst, sym}
use Rattle.std.specs.List.{AllByRecursion}
use Rattle.std.specs.Prelude.{IfSome}
use Rattle.mdcc_journal.specs.Counts.{HasCounts}
use Rattle.mdcc_def_messages.specs.declared.facts.Fact.{Fact}
use Rattle.mdcc_def_messages.specs.declared.messages.Envelope.{Envelope}
use Rattle.mdcc_def_rules.specs.declared.node.Answer.{Answer}
use Rattle.mdcc_def_rules.specs.declared.node.Input.{Input}
use Rattle.mdcc_def_rules.specs.declared.node.Step.{Step}
use Rattle.mdcc_def_server_runs.specs.Runs.{listed, step_on}
use Rattle.mdcc_def_server_runs.specs.Sites.{Doing}
use Rattle.mdcc_def_server_runs.specs.Steps.{read_made, read_taken, reading_told, step_queued, stepped}
use Rattle.mdcc_serve_site.proofs.Becoming.{becomes_from, counts_of, refusal_becomes, same_node}
use Rattle.mdcc_serve_site.proofs.Noted.{reading_can}
use Rattle.mdcc_serve_site.specs.SiteState.{Becomes, CanBeSent}
use Rattle.mdcc_serve_site.proofs.site.Site.take_read.Goals as goal

pub act_on-requires-clause-input : goal.act_on-requires-clause-input
act_on-requires-clause-input c = (c.requires.key, omega arith)

pub queue_step-requires-clause-fact : goal.queue_step-requires-clause-fact
queue_step-requires-clause-fact c =
    let acted = c.in-Ok.ensures.acted c.requires.served.0 c.requires.served.1 c.requires.served.2 in
    subst (λ (o : Option Fact). IfSome o HasCounts) (sym (ap (λ (s : Step). s.fact) acted.2)) (counts_of acted.0.fact acted.3.fact)

pub queue_step-requires-clause-sends : goal.queue_step-requires-clause-sends
queue_step-requires-clause-sends c =
    let acted = c.in-Ok.ensures.acted c.requires.served.0 c.requires.served.1 c.requires.served.2 in
    subst (λ (xs : List Envelope). AllByRecursion CanBeSent xs) (sym (ap (λ (s : Step). s.sends) acted.2)) acted.3.sends

pub queue_step-requires-clause-reply : goal.queue_step-requires-clause-reply
queue_step-requires-clause-reply c = subst (λ (o : Option Envelope). IfSome o CanBeSent) (sym c.reading_told-reply.ensures) (reading_can _ _ _ _)

pub returns-in-Ok : goal.returns-in-Ok
returns-in-Ok c config site stands =
    let cluster = config.cluster in
    let new = c.act_on.new.self in
    let acted = c.in-Ok.ensures.acted cluster site stands in
    let answer : c.take.result ≡ acted.0.answer = c.take.ensures.value ∙ ap (λ (s : Step). s.answer) acted.2 in
    let told : c.reading_told-reply.result ≡ reading_told site.centre c.args.serial c.args.key acted.0.answer =
    c.reading_told-reply.ensures ∙ (ap (λ (n : ℕ). reading_told n c.args.serial c.args.key c.take.result) acted.3.centre ∙ ap (λ (o : Option Answer). reading_told site.centre c.args.serial c.args.key o) answer) in
    let reply = c.reading_told-reply.result in
    let out = c.queue_step.ensures cluster site acted.0 acted.3 (ap (λ (s : Step). s.fact) acted.2) (ap (λ (s : Step). s.heard) acted.2) in
    let e : stepped (step_queued site acted.0 (c.act_on.new.step.sends ++ listed reply)) ≡ read_taken config site c.args.serial c.args.key =
    ap (λ (s : Step). stepped (step_queued site acted.0 (s.sends ++ listed reply))) acted.2
    ∙ (ap (λ (o : Option Envelope). stepped (step_queued site acted.0 (acted.0.sends ++ listed o))) told ∙ ap (read_made site c.args.serial c.args.key) (sym acted.1)) in
    subst (λ (d : Doing). Becomes cluster site d c.queue_step.result c.args.self.now c.queue_step.new.self) e
    (becomes_from cluster _ c.queue_step.result site site c.args.self.now new c.queue_step.new.self refl refl (same_node c.args.self.now new c.act_on.ensures.same) out)

pub returns : goal.returns
returns c config site stands =
    let new = c.act_on.new.self in
    let expected = step_on config.cluster site.centre site.node (Input.Read c.args.key) in
    becomes_from config.cluster (read_taken config site c.args.serial c.args.key) c.refuse.result site site c.args.self.now new c.refuse.new.self refl refl (same_node c.args.self.now new c.act_on.ensures.same)
    (refusal_becomes config.cluster site expected c.act_on.new.step c.in-Err.fault new c.refuse.new.self c.refuse.result (read_taken config site c.args.serial c.args.key)
    c.refuse.ensures (c.in-Err.ensures.acted config.cluster site stands) (λ is. ap (read_made site c.args.serial c.args.key) is))
