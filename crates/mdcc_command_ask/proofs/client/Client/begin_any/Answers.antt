use Rattle.std.proofs.Common.{◌≡◌, ◌∙◌, List, ap, false, sym, true, ℕ}
use Rattle.std.proofs.lemmas.Result.{IfOk-weaker}
use Rattle.mdcc_command_ask.proofs.Replied.{none_begun, some_begun}
use Rattle.mdcc_command_ask.specs.Answers.{answered}
use Rattle.mdcc_command_ask.proofs.client.Client.begin_any.Goals as goal

pub returns-then-is_empty : goal.returns-then-is_empty
returns-then-is_empty c =
    c.answered.ensures ∙ ap (λ (text : List ℕ). answered text c.args.self.now) c.new.ensures
    ∙ none_begun c.args.schema.now c.args.order.now c.args.self.now (c.is_empty.ensures.0 c.if-is_empty.true)

pub returns : goal.returns
returns c =
    let some = some_begun c.args.schema.now c.args.order.now c.args.self.now (λ none. let bad : true ≡ false = sym (c.is_empty.ensures.1 none) ∙ c.if-is_empty.false in absurd (cc)) in
    IfOk-weaker c.begin.result _ _ (λ reply h. h ∙ some) c.begin.ensures
