use Rattle.std.proofs.Common.{◌∙◌, Bool, List, Option, ap, ℕ}
use Rattle.mdcc_command_ask.proofs.Replied.{idle_by}
use Rattle.mdcc_command_ask.specs.Answers.{answered, end_by}
use Rattle.mdcc_command_ask.proofs.client.Client.take_end.Goals as goal

pub returns-in_ok-text-in-Some : goal.returns-in_ok-text-in-Some
returns-in_ok-text-in-Some c =
    c.answered.ensures
    ∙ ap (λ (text : List ℕ). answered text c.args.self.now) c.in_ok-text-in-Some.ensures
    ∙ ap (λ (ended : Option Bool). end_by c.args.order.now c.args.self.now c.args.tx ended) c.in-Some.ensures

pub returns-in-None : goal.returns-in-None
returns-in-None c =
    idle_by c.args.self.now c.idle.result c.idle.ensures ∙ ap (λ (ended : Option Bool). end_by c.args.order.now c.args.self.now c.args.tx ended) c.in-None.ensures
