use Rattle.std.proofs.Common.{◌∙◌, Option, ap}
use Rattle.std.proofs.lemmas.Result.{IfOk-weaker}
use Rattle.mdcc_command_ask.proofs.Replied.{idle_by}
use Rattle.mdcc_command_ask.specs.Answers.{maybe_taken}
use Rattle.mdcc_def_messages.specs.declared.messages.ClientAnswer.{ClientAnswer}
use Rattle.mdcc_command_ask.proofs.client.Client.take_message.Goals as goal

pub returns-in-Some : goal.returns-in-Some
returns-in-Some c =
    let answer = ap (λ (a : Option ClientAnswer). maybe_taken c.args.schema.now c.args.order.now c.args.self.now a) c.in-Some.ensures in
    IfOk-weaker c.take_answer.result _ _ (λ reply h. h ∙ answer) c.take_answer.ensures

pub returns-in-None : goal.returns-in-None
returns-in-None c =
    idle_by c.args.self.now c.idle.result c.idle.ensures ∙ ap (λ (a : Option ClientAnswer). maybe_taken c.args.schema.now c.args.order.now c.args.self.now a) c.in-None.ensures
