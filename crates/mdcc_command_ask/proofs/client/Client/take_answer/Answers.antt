use Rattle.std.proofs.Common.{◌∙◌, ap, sym}
use Rattle.std.proofs.lemmas.Result.{IfOk-weaker}
use Rattle.mdcc_command_ask.proofs.Replied.{idle_by}
use Rattle.mdcc_command_ask.specs.Answers.{taken_at}
use Rattle.mdcc_command_ask.specs.declared.client.Phase.{Phase}
use Rattle.mdcc_command_ask.proofs.client.Client.take_answer.Goals as goal

pub returns-in-Reading : goal.returns-in-Reading
returns-in-Reading c =
    let at = ap (λ (phase : Phase). taken_at phase c.args.schema.now c.args.order.now c.args.self.now c.args.answer.now) (sym c.in-Reading.is) in
    IfOk-weaker c.take_read.result _ _ (λ reply h. h ∙ at) c.take_read.ensures

pub returns-in-Beginning : goal.returns-in-Beginning
returns-in-Beginning c =
    let at = ap (λ (phase : Phase). taken_at phase c.args.schema.now c.args.order.now c.args.self.now c.args.answer.now) (sym c.in-Beginning.is) in
    IfOk-weaker c.take_begin.result _ _ (λ reply h. h ∙ at) c.take_begin.ensures

pub returns-in-Waiting : goal.returns-in-Waiting
returns-in-Waiting c =
    let at = ap (λ (phase : Phase). taken_at phase c.args.schema.now c.args.order.now c.args.self.now c.args.answer.now) (sym c.in-Waiting.is) in
    IfOk-weaker c.take_end.result _ _ (λ reply h. h ∙ at) c.take_end.ensures

pub returns-in-Answered : goal.returns-in-Answered
returns-in-Answered c =
    let at = ap (λ (phase : Phase). taken_at phase c.args.schema.now c.args.order.now c.args.self.now c.args.answer.now) (sym c.in-Answered.is) in
    idle_by c.args.self.now c.idle.result c.idle.ensures ∙ at
