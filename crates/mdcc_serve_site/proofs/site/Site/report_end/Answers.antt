use Rattle.std.proofs.Common.{◌≡◌, ◌∙◌, ◌++◌, ℕ, Option, Some, ap, map, rules, sym}
use Rattle.mdcc_def_messages.specs.declared.messages.ClientAnswer.{ClientAnswer}
use Rattle.mdcc_def_messages.specs.declared.messages.Envelope.{Envelope}
use Rattle.mdcc_serve_outbox.specs.Outgoing.{outgoing}
use Rattle.mdcc_def_server_runs.specs.Clients.{known_of}
use Rattle.mdcc_def_server_runs.specs.Runs.{listed}
use Rattle.mdcc_def_server_runs.specs.Sending.{answer_to}
use Rattle.mdcc_def_server_runs.specs.Steps.{ends_told}
use Rattle.mdcc_serve_site.proofs.Noted.{told_end}
use Rattle.mdcc_serve_site.specs.PendingBytes.{PendingBytes}
use Rattle.mdcc_serve_site.proofs.site.Site.report_end.Goals as goal

pub returns-clause-told : goal.returns-clause-told
returns-clause-told c site centre clients =
    let held = c.args.self.now.pending in
    let begun = c.in-Some-known_of.begun in
    let answer = ClientAnswer.Heard c.in-Some.tx c.in-Some.is_commit in
    let was : c.known_of.result ≡ known_of c.args.self.now.clients c.in-Some.tx = search rules in
    let known : known_of site.clients c.in-Some.tx ≡ Some begun = ap (λ cs. known_of cs c.in-Some.tx) (sym clients) ∙ (sym was ∙ c.in-Some-known_of.is) in
    let told = told_end site c.args.heard c.in-Some.tx c.in-Some.is_commit begun c.in-Some.is known in
    let made : c.answer_to-envelope.result ≡ answer_to c.args.self.now.centre begun.serial answer = search rules in
    let envelope : c.answer_to-envelope.result ≡ answer_to site.centre begun.serial answer = made ∙ ap (λ (n : ℕ). answer_to n begun.serial answer) centre in
    let e : Some c.answer_to-envelope.result ≡ ends_told site c.args.heard = ap (λ (x : Envelope). Some x) envelope ∙ sym told in
    c.in_ok-push_message.ensures ∙ ap (λ (o : Option Envelope). let q : PendingBytes = record held { messages = held.messages ++ map outgoing (listed o) } in q) e
