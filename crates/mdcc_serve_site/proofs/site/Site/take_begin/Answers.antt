use Rattle.std.proofs.Common.{◌≡◌, ◌∙◌, Some, None, Option, ap, subst, sym}
use Rattle.mdcc_base.specs.declared.identifiers.TxId.{TxId}
use Rattle.mdcc_def_messages.specs.declared.messages.ClientAnswer.{ClientAnswer}
use Rattle.mdcc_def_server_runs.specs.Clients.{begun_for, known_of}
use Rattle.mdcc_def_server_runs.specs.Steps.{answer_queued, begin_taken_by, end_of_begun, known_told}
use Rattle.mdcc_serve_site.specs.SiteState.{Becomes}
use Rattle.mdcc_serve_site.proofs.site.Site.take_begin.Goals as goal

pub returns-in-None : goal.returns-in-None
returns-in-None c site stands =
    let config = c.args.config.now in
    let none : begun_for site.clients c.args.serial ≡ None = ap (λ cs. begun_for cs c.args.serial) (sym stands.clients) ∙ (sym c.begun_for.ensures ∙ c.in-None.is) in
    subst (λ (o : Option TxId). Becomes config.cluster site (begin_taken_by config site c.args.serial c.args.parts.now o) c.begin_draft.result c.args.self.now c.begin_draft.new.self)
    (sym none) (c.begin_draft.ensures site stands)

pub returns-in-Some : goal.returns-in-Some
returns-in-Some c site stands =
    let config = c.args.config.now in
    let tx = c.in-Some.tx in
    let some : begun_for site.clients c.args.serial ≡ Some tx = ap (λ cs. begun_for cs c.args.serial) (sym stands.clients) ∙ (sym c.begun_for.ensures ∙ c.in-Some.is) in
    let tells : c.known_told-told.result ≡ known_told tx (end_of_begun (known_of site.clients tx)) =
    c.known_told-told.ensures ∙ (ap (known_told tx) c.end_of.ensures ∙ ap (λ cs. known_told tx (end_of_begun (known_of cs tx))) stands.clients) in
    subst (λ (o : Option TxId). Becomes config.cluster site (begin_taken_by config site c.args.serial c.args.parts.now o) c.queue_answer.result c.args.self.now c.queue_answer.new.self)
    (sym some)
    (subst (λ (answer : ClientAnswer). Becomes config.cluster site (answer_queued site c.args.serial answer) c.queue_answer.result c.args.self.now c.queue_answer.new.self) tells
    (c.queue_answer.ensures config.cluster site stands))
