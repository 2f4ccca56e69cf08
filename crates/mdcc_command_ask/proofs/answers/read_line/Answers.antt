use Rattle.std.proofs.Common.{◌∙◌, ap}
use Rattle.std.proofs.lemmas.Result.{IfOk-weaker}
use Rattle.mdcc_command_ask.specs.Texts.{read_line}
use Rattle.mdcc_option.specs.declared.items.Known.{Known}
use Rattle.mdcc_command_ask.proofs.answers.read_line.Goals as goal

pub returns : goal.returns
returns c =
    let known = ap (λ (k : Known). read_line c.args.number c.args.order.now.centre k) c.copy.ensures in
    IfOk-weaker c.line_of.result _ _ (λ text h. h ∙ known) c.line_of.ensures
