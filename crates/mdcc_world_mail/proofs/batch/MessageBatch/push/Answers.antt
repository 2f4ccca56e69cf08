use Rattle.std.proofs.Common.{◌≡◌, ◌+◌, ◌++◌, ◌∷◌, [], ◌∙◌, ap, arith}
use Rattle.mdcc_world_mail.proofs.Spelled.{pushed-batch}
use Rattle.mdcc_def_messages.specs.Lengths.{message_length}
use Rattle.mdcc_def_messages.specs.Mailbox.{Sent, unsent}
use Rattle.mdcc_world_mail.proofs.batch.MessageBatch.push.Goals as goal

pub invariant_of-self-2 : goal.invariant_of-self-2
invariant_of-self-2 c =
    let messages = c.self.inside.messages.items in
    let envelope = c.args.envelope.now in
    let long : c.length.result ≡ message_length envelope = c.length.ensures ∙ ap (λ (s : Sent). message_length s.envelope) c.in_ok-message.ensures in
    let total : c.in-Some.length ≡ c.self.inside.length + message_length envelope = omega (arith, c.in-Some.ensures, long) in
    let is : c.push.new.self.items ≡ messages ++ unsent envelope ∷ [] =
    c.in_ok-push.ensures.items ∙ ap (λ (s : Sent). messages ++ s ∷ []) c.in_ok-message.ensures in
    rw (is, total) (pushed-batch messages c.self.inside.length envelope c.self.invariant)
