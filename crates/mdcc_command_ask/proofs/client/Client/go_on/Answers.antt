use Rattle.std.proofs.Common.{◌∙◌, List, Option, ap, ℕ}
use Rattle.std.proofs.lemmas.Result.{IfOk-weaker}
use Rattle.mdcc_command_ask.specs.Answers.{next_by}
use Rattle.mdcc_command_ask.proofs.client.Client.go_on.Goals as goal

pub returns-in-Some : goal.returns-in-Some
returns-in-Some c =
    let next = ap (λ (key : Option (List ℕ)). next_by c.args.schema.now c.args.order.now c.args.self.now key) c.in-Some.ensures in
    IfOk-weaker c.request.result _ _ (λ reply h. h ∙ next) c.request.ensures

pub returns-in-None : goal.returns-in-None
returns-in-None c =
    let next = ap (λ (key : Option (List ℕ)). next_by c.args.schema.now c.args.order.now c.args.self.now key) c.in-None.ensures in
    IfOk-weaker c.begin_any.result _ _ (λ reply h. h ∙ next) c.begin_any.ensures
