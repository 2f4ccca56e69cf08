use Rattle.std.proofs.Common.{◌≡◌, ◌++◌, ◌∙◌, List, ℕ, ap}
use Rattle.mdcc_world_mail.proofs.Spelled.{written-in, written-message}
use Rattle.mdcc_def_messages.specs.Spelling.{message_bytes}
use Rattle.mdcc_def_messages.specs.Mailbox.{unsent}
use Rattle.mdcc_def_messages.specs.declared.messages.Envelope.{Envelope}
use Rattle.mdcc_wire.proofs.Counted.{has_counts}
use Rattle.mdcc_world_mail.proofs.stored.StoredMessage.write.Goals as goal

pub write_message-requires : goal.write_message-requires
write_message-requires c = has_counts c.args.envelope.now.message c.requires.message

pub invariant_of-result : goal.invariant_of-result
invariant_of-result c =
    let envelope = c.args.envelope.now in
    let is : c.write_message.new.out.items ≡ message_bytes envelope =
    c.in_ok-write_message.ensures.ok ∙ ap (λ (xs : List ℕ). xs ++ message_bytes envelope) c.new-bytes.ensures.items in
    written-message envelope c.write_message.new.out.items c.requires is

pub returns : goal.returns
returns c =
    let envelope = c.args.envelope.now in
    let is : c.write_message.new.out.items ≡ message_bytes envelope =
    c.in_ok-write_message.ensures.ok ∙ ap (λ (xs : List ℕ). xs ++ message_bytes envelope) c.new-bytes.ensures.items in
    ap (λ (e : Envelope). unsent e) (written-in envelope c.write_message.new.out.items c.requires is)
