use Rattle.std.proofs.Common.{◌∙◌, ◌+◌, ap, ℕ}
use Rattle.mdcc_command_ask.proofs.Replied.{shown_by}
use Rattle.mdcc_command_ask.specs.Texts.{read_line}
use Rattle.mdcc_command_ask.proofs.client.Client.take_known.Goals as goal

pub returns : goal.returns
returns c =
    let line = c.in_ok-line.ensures ∙ ap (λ (n : ℕ). read_line (n + 1) c.args.order.now.centre c.args.known) c.len.ensures in
    shown_by c.args.schema.now c.args.order.now c.args.self.now c.args.known c.in_ok-line.line c.in_ok-text.text c.in_ok-next.next c.add_known.new.self c.go_on.new.self
    c.in_ok-add_known.ensures c.in_ok-next.ensures line c.in_ok-text.ensures
