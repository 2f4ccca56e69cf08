use Rattle.std.proofs.Common.{◌∙◌, Option, ap}
use Rattle.std.proofs.lemmas.Result.{IfOk-weaker}
use Rattle.mdcc_command_ask.proofs.Replied.{idle_by}
use Rattle.mdcc_command_ask.specs.Answers.{read_answer_by}
use Rattle.mdcc_option.specs.declared.items.Known.{Known}
use Rattle.mdcc_command_ask.proofs.client.Client.take_read.Goals as goal

pub returns-in-Some : goal.returns-in-Some
returns-in-Some c =
    let shown = ap (λ (known : Option Known). read_answer_by c.args.schema.now c.args.order.now c.args.self.now known) c.in-Some.ensures in
    IfOk-weaker c.take_shown.result _ _ (λ reply h. h ∙ shown) c.take_shown.ensures

pub returns-in-None : goal.returns-in-None
returns-in-None c =
    idle_by c.args.self.now c.idle.result c.idle.ensures ∙ ap (λ (known : Option Known). read_answer_by c.args.schema.now c.args.order.now c.args.self.now known) c.in-None.ensures
