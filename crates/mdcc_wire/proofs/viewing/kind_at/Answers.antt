use Rattle.std.proofs.Common.{◌≡◌, ◌∙◌}
use Rattle.mdcc_def_messages.specs.Spelling.{kind_of}
use Rattle.mdcc_wire.proofs.Shown.{if_shown}
use Rattle.mdcc_wire.proofs.viewing.kind_at.Goals as goal

pub returns : goal.returns
returns c = if_shown c.args.bytes.now (λ e. c.kind_byte.result ≡ kind_of e.message) (λ e s. c.kind_byte.ensures ∙ s.kind)
