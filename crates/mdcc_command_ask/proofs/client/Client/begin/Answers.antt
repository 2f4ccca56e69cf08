use Rattle.std.proofs.Common.{◌∙◌, List, Result, ap}
use Rattle.std.proofs.lemmas.Result.{IfOk-weaker}
use Rattle.mdcc_command_ask.proofs.Replied.{resolved}
use Rattle.mdcc_command_ask.specs.Answers.{begins, begins_parts}
use Rattle.mdcc_def_language.specs.Resolve.{resolve}
use Rattle.mdcc_def_language.specs.declared.schedule.ResolveFault.{ResolveFault}
use Rattle.mdcc_option.specs.Transaction.{transaction_of}
use Rattle.mdcc_option.specs.declared.items.Part.{Part}
use Rattle.mdcc_command_ask.proofs.client.Client.begin.Goals as goal

pub returns-in-Ok : goal.returns-in-Ok
returns-in-Ok c =
    let parts = ap (λ (ps : List Part). begins_parts c.args.order.now c.args.self.now (transaction_of c.args.schema.now ps)) c.as_slice.ensures in
    let found = ap (λ (r : Result (List Part) ResolveFault). begins c.args.schema.now c.args.order.now c.args.self.now r) c.in-Ok.ensures in
    IfOk-weaker c.begin_parts.result _ _ (λ reply h. h ∙ parts ∙ found) c.begin_parts.ensures

pub returns-in-Err : goal.returns-in-Err
returns-in-Err c =
    let expected = resolve c.args.order.now.updates c.args.self.now.known in
    IfOk-weaker c.unresolved.result _ _
    (λ reply h. h.1 ∙ ap (λ (r : Result (List Part) ResolveFault). begins c.args.schema.now c.args.order.now c.args.self.now r) (resolved c.in-Err.fault expected h.0 c.in-Err.ensures))
    c.unresolved.ensures
