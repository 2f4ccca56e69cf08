use Rattle.std.proofs.Common.{◌≡◌, ◌∙◌, List, [], ◌++◌, Option, Result, Ok, Err, ap, append-nil, append_assoc, map, refl, subst, sym}
use Rattle.std.specs.List.{AllByRecursion}
use Rattle.std.proofs.lemmas.List.{map-append}
use Rattle.std.proofs.lemmas.Result.{err_from_is_err_and}
use Rattle.std.specs.Prelude.{IfSome}
use Rattle.mdcc_journal.specs.Counts.{HasCounts}
use Rattle.mdcc_def_messages.specs.declared.facts.Fact.{Fact}
use Rattle.mdcc_def_messages.specs.declared.messages.Envelope.{Envelope}
use Rattle.mdcc_serve_outbox.specs.Outgoing.{outgoing}
use Rattle.mdcc_serve_outbox.specs.declared.outgoing.Outgoing.{Outgoing}
use Rattle.mdcc_def_rules.specs.Steps.{NodeStep, heard_by}
use Rattle.mdcc_def_rules.specs.declared.node.Step.{Step}
use Rattle.mdcc_def_rules.specs.declared.node.StepFault.{StepFault}
use Rattle.mdcc_def_server_runs.specs.Clients.{with_end}
use Rattle.mdcc_def_server_runs.specs.Runs.{listed}
use Rattle.mdcc_def_server_runs.specs.Sites.{Doing, Pending, Site}
use Rattle.mdcc_def_server_runs.specs.Steps.{ends_told, input_made, step_queued, stepped}
use Rattle.mdcc_serve_site.proofs.Becoming.{becomes_from, counts_of, lacks_by, refusal_becomes, same_told}
use Rattle.mdcc_serve_site.proofs.Noted.{ends_can, stepped_told}
use Rattle.mdcc_serve_site.specs.PendingBytes.{PendingBytes, pending_bytes}
use Rattle.mdcc_serve_site.specs.SiteState.{Acted, Becomes, CanBeSent}
use Rattle.mdcc_serve_site.specs.declared.fault.ServeFault.{ServeFault}
use Rattle.mdcc_serve_site.proofs.site.Site.input_made.Goals as goal

-- the site that hears the end, and tells its client
abbrev tells : Site → Step → Site
tells site step = record site {
  clients = with_end site.clients step.heard;
  pending = record site.pending { envelopes = site.pending.envelopes ++ listed (ends_told site step.heard) };
}

-- the client's answer and then the messages
one_after_other : (site : Site) (step : NodeStep) (made : Step) → made.sends ≡ step.sends → made.heard ≡ heard_by step.fact → stepped (step_queued (tells site made) step (made.sends ++ [])) ≡ input_made site (Ok step)
one_after_other site step made sends heard =
    let noted : Site = record site { clients = with_end site.clients made.heard } in
    let told = listed (ends_told site made.heard) in
    let base = stepped (step_queued noted step (told ++ step.sends)) in
    let one : stepped (step_queued (tells site made) step (made.sends ++ [])) ≡ stepped (step_queued (tells site made) step step.sends) =
    ap (λ (xs : List Envelope). stepped (step_queued (tells site made) step xs)) (append-nil made.sends ∙ sends) in
    let two : stepped (step_queued (tells site made) step step.sends) ≡ base =
    ap (λ (xs : List Envelope). let d : Doing = record base { site = record base.site { pending = record base.site.pending { envelopes = xs } } } in d) (append_assoc site.pending.envelopes told step.sends) in
    let three : base ≡ input_made site (Ok step) = ap (λ h. stepped (step_queued (record site { clients = with_end site.clients h }) step (listed (ends_told site h) ++ step.sends))) heard in
    one ∙ (two ∙ three)

-- what waits with the client's answer
told_waits : (held : PendingBytes) (pending : Pending) (told : Option Envelope) → held ≡ pending_bytes pending
    → record held { messages = held.messages ++ map outgoing (listed told) } ≡ pending_bytes (record pending { envelopes = pending.envelopes ++ listed told })
told_waits held pending told is =
    ap (λ (p : PendingBytes). let q : PendingBytes = record p { messages = p.messages ++ map outgoing (listed told) } in q) is
    ∙ ap (λ (ms : List Outgoing). let q : PendingBytes = record (pending_bytes pending) { messages = ms } in q) (sym (map-append outgoing pending.envelopes (listed told)))

pub queue_step-requires-clause-fact : goal.queue_step-requires-clause-fact
queue_step-requires-clause-fact c =
    let acted = subst (λ (m : Result (Unit {0}) StepFault). Acted c.requires.acted.0 c.args.self.now c.requires.acted.1 c.requires.acted.2 m c.args.step.now) c.in-Ok.is c.requires.acted.3 in
    subst (λ (o : Option Fact). IfSome o HasCounts) (sym (ap (λ (s : Step). s.fact) acted.2)) (counts_of acted.0.fact acted.3.fact)

pub queue_step-requires-clause-sends : goal.queue_step-requires-clause-sends
queue_step-requires-clause-sends c =
    let acted = subst (λ (m : Result (Unit {0}) StepFault). Acted c.requires.acted.0 c.args.self.now c.requires.acted.1 c.requires.acted.2 m c.args.step.now) c.in-Ok.is c.requires.acted.3 in
    subst (λ (xs : List Envelope). AllByRecursion CanBeSent xs) (sym (ap (λ (s : Step). s.sends) acted.2)) acted.3.sends

pub returns-in_err-report_end-in-Ok : goal.returns-in_err-report_end-in-Ok
returns-in_err-report_end-in-Ok c cluster site expected acted =
    let p = err_from_is_err_and c.from_residual.result c.from_residual.ensures.1 in
    let e : c.from_residual.result ≡ Err c.in_err-report_end-in-Ok.field-0.0 = cc (p.1, p.2) in
    subst (λ (r : Result (Unit {0}) ServeFault). Becomes cluster site (input_made site expected) r c.args.self.now c.report_end.new.self) (sym e)
    (lacks_by c.in_err-report_end-in-Ok.field-0.0 c.in_err-report_end-in-Ok.ensures.memory (same_told c.args.self.now c.report_end.new.self c.report_end.ensures.same))

pub returns-in_ok-report_end-in-Ok : goal.returns-in_ok-report_end-in-Ok
returns-in_ok-report_end-in-Ok c cluster site expected first =
    let step = c.args.step.now in
    let acted = subst (λ (m : Result (Unit {0}) StepFault). Acted cluster c.args.self.now site expected m step) c.in-Ok.is first in
    let new = c.report_end.new.self in
    let same = c.report_end.ensures.same in
    let sends : step.sends ≡ acted.0.sends = ap (λ (s : Step). s.sends) acted.2 in
    let heard : step.heard ≡ heard_by acted.0.fact = ap (λ (s : Step). s.heard) acted.2 in
    let waits : new.pending ≡ pending_bytes (record site.pending { envelopes = site.pending.envelopes ++ listed (ends_told site step.heard) }) =
    c.in_ok-report_end-in-Ok.ensures.told site acted.3.centre acted.3.clients ∙ told_waits c.args.self.now.pending site.pending (ends_told site step.heard) acted.3.waits.pending in
    let st = stepped_told cluster c.args.self.now new site acted.0 (with_end site.clients step.heard) (ends_told site step.heard) same
    (c.in_ok-report_end-in-Ok.ensures.noted ∙ ap (λ cs. with_end cs step.heard) acted.3.clients) waits (ends_can site step.heard) acted.3 in
    let out = c.queue_step.ensures cluster (tells site step) acted.0 st (ap (λ (s : Step). s.fact) acted.2) heard in
    subst (λ (d : Doing). Becomes cluster site d c.queue_step.result c.args.self.now c.queue_step.new.self) (one_after_other site acted.0 step sends heard ∙ ap (input_made site) (sym acted.1))
    (becomes_from cluster _ c.queue_step.result site (tells site step) c.args.self.now new c.queue_step.new.self refl refl (same_told c.args.self.now new same) out)

pub returns-in-Err : goal.returns-in-Err
returns-in-Err c cluster site expected first =
    let acted = subst (λ (m : Result (Unit {0}) StepFault). Acted cluster c.args.self.now site expected m c.args.step.now) c.in-Err.is first in
    refusal_becomes cluster site expected c.args.step.now c.in-Err.fault c.args.self.now c.refuse.new.self c.refuse.result (input_made site expected)
    c.refuse.ensures acted (λ is. ap (input_made site) is)
