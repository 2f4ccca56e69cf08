use Rattle.std.proofs.Common.{◌≡◌, ◌∙◌, ap}
use Rattle.mdcc_wire.specs.Marks.{marks_by}
use Rattle.mdcc_wire.specs.Views.{message_marks}
use Rattle.mdcc_wire.proofs.Shown.{if_shown}
use Rattle.mdcc_wire.proofs.viewing.marks_of.Goals as goal

pub returns : goal.returns
returns c = if_shown c.args.bytes.now (λ e. c.marks_by.result ≡ message_marks e.message)
    (λ e s. c.marks_by.ensures ∙ ap (λ k. marks_by k c.args.bytes.now 4) c.kind_byte.ensures ∙ s.marks)
