use Rattle.std.proofs.Common.{◌∙◌}
use Rattle.std.proofs.lemmas.Result.{IfOk-weaker}
use Rattle.mdcc_command_ask.proofs.Replied.{asked_in, idle_by, not_asked}
use Rattle.mdcc_command_ask.proofs.client.Client.take_shown.Goals as goal

pub returns-then-not-is_asked : goal.returns-then-not-is_asked
returns-then-not-is_asked c =
    idle_by c.args.self.now c.idle.result c.idle.ensures
    ∙ not_asked c.args.schema.now c.args.order.now c.args.self.now c.args.known c.is_asked.result c.is_asked.ensures c.if-not-is_asked.true

pub returns : goal.returns
returns c =
    IfOk-weaker c.take_known.result _ _ (λ reply h. h ∙ asked_in c.args.schema.now c.args.order.now c.args.self.now c.args.known c.is_asked.result c.is_asked.ensures c.if-not-is_asked.false) c.take_known.ensures
