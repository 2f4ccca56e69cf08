use Rattle.std.proofs.Common.{◌≡◌, ◌∙◌, ap}
use Rattle.mdcc_wire.specs.Views.{message_choice, choice_by}
use Rattle.mdcc_wire.proofs.Shown.{if_shown}
use Rattle.mdcc_wire.proofs.viewing.choice_of.Goals as goal

pub returns : goal.returns
returns c = if_shown c.args.bytes.now (λ e. c.choice_by.result ≡ message_choice e.message)
    (λ e s. c.choice_by.ensures ∙ ap (λ k. choice_by k c.args.bytes.now 4) c.kind_byte.ensures ∙ s.choice)
