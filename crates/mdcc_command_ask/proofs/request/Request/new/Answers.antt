use Rattle.std.proofs.Common.{◌++◌, ◌≤◌, ◌∙◌, List, ap, length, subst, sym, ℕ}
use Rattle.mdcc_frag.specs.Datagrams.{message_limit}
use Rattle.mdcc_def_messages.specs.Spelling.{message_bytes}
use Rattle.mdcc_serve_outbox.proofs.Messages.{not_long, short_bytes}
use Rattle.mdcc_command_ask.proofs.request.Request.new.Goals as goal

pub invariant_of-result : goal.invariant_of-result
invariant_of-result c =
    let few = short_bytes c.args.envelope.now (not_long c.args.envelope.now c.in-Ok.field-0 c.in-Ok.ensures.exact) in
    let there = c.in-Ok.ensures.ok ∙ ap (λ (front : List ℕ). front ++ message_bytes c.args.envelope.now) c.new-bytes.ensures.items in
    subst (λ (bytes : List ℕ). length bytes ≤ message_limit) (sym there) few
