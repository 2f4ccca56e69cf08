use Rattle.std.proofs.Common.{◌∙◌, List, Result, ap, ℕ}
use Rattle.std.proofs.lemmas.Result.{IfOk-weaker}
use Rattle.mdcc_command_ask.specs.Answers.{answered, begins_parts}
use Rattle.mdcc_command_ask.specs.Requests.{requested}
use Rattle.mdcc_command_ask.specs.declared.client.Phase.{Phase}
use Rattle.mdcc_def_messages.specs.declared.messages.Message.{Message}
use Rattle.mdcc_option.specs.declared.faults.DraftFault.{DraftFault}
use Rattle.mdcc_option.specs.declared.items.Part.{Part}
use Rattle.mdcc_command_ask.proofs.client.Client.begin_parts.Goals as goal

pub returns-in-Ok : goal.returns-in-Ok
returns-in-Ok c =
    let message = ap (λ (m : Message). requested c.args.order.now m Phase.Beginning c.args.self.now) c.begin_message-message.ensures.value in
    let made = ap (λ (r : Result (List Part) DraftFault). begins_parts c.args.order.now c.args.self.now r) c.in-Ok.ensures.exact in
    IfOk-weaker c.request.result _ _ (λ reply h. h ∙ message ∙ made) c.request.ensures

pub returns-in_ok-text-in-Err : goal.returns-in_ok-text-in-Err
returns-in_ok-text-in-Err c =
    c.answered.ensures
    ∙ ap (λ (text : List ℕ). answered text c.args.self.now) c.in_ok-text-in-Err.ensures
    ∙ ap (λ (r : Result (List Part) DraftFault). begins_parts c.args.order.now c.args.self.now r) c.in-Err.ensures.exact
