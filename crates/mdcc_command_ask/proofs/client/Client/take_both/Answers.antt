use Rattle.std.proofs.Common.{◌∙◌, ◌++◌, List, ap, ℕ}
use Rattle.mdcc_command_ask.specs.Answers.{answered}
use Rattle.mdcc_command_ask.specs.Texts.{begin_line}
use Rattle.mdcc_command_ask.proofs.client.Client.take_both.Goals as goal

pub returns : goal.returns
returns c =
    let text =
    c.in_ok-text.ensures
    ∙ ap (λ (begun : List ℕ). begun ++ c.in_ok-heard.heard) c.in_ok-begun.ensures
    ∙ ap (λ (heard : List ℕ). begin_line c.args.tx ++ heard) c.in_ok-heard.ensures in
    c.answered.ensures ∙ ap (λ (t : List ℕ). answered t c.args.self.now) text
