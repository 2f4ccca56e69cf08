use Rattle.std.proofs.Common.{◌≡◌, ◌<◌, ◌≤◌, ◌-◌, ◌∙◌, ap, arith, length, set, sym}
use Rattle.std.proofs.lemmas.List.{length-set}
use Rattle.mdcc_world_mail.proofs.Firsts.{cursors_delivered, delivered_past, message_there, set_delivered}
use Rattle.mdcc_def_messages.specs.Mailbox.{Sent, with_delivered}
use Rattle.mdcc_world_mail.proofs.network.Network.deliver.Goals as goal

pub invariant_of-self : goal.invariant_of-self
invariant_of-self c =
    let sent = c.self.inside.messages.items in
    let place = c.args.number - 1 in
    let within : place < length sent = omega (arith, c.if-place-len.true, c.self.inside.messages.ok.0) in
    let there = message_there sent place c.index_mut.result.now within c.index_mut.ensures.value in
    let is : set sent place c.deliver.new.self ≡ with_delivered sent place =
    ap (λ (x : Sent). set sent place x) c.deliver.ensures ∙ set_delivered sent place c.index_mut.result.now there in (
      rw is (cursors_delivered c.self.inside.cursors sent place c.self.invariant.0),
      rw (length-set sent place _) c.self.invariant.1,
    )

pub returns-then-place-len : goal.returns-then-place-len
returns-then-place-len c =
    let sent = c.self.inside.messages.items in
    let place = c.args.number - 1 in
    let within : place < length sent = omega (arith, c.if-place-len.true, c.self.inside.messages.ok.0) in
    let there = message_there sent place c.index_mut.result.now within c.index_mut.ensures.value in
    rw (← c.self.view_is) (ap (λ (x : Sent). set sent place x) c.deliver.ensures ∙ set_delivered sent place c.index_mut.result.now there)

pub returns-else-place-len : goal.returns-else-place-len
returns-else-place-len c =
    let sent = c.self.inside.messages.items in
    let place = c.args.number - 1 in
    let past : length sent ≤ place = omega (arith, c.if-place-len.false, c.self.inside.messages.ok.0) in
    rw (← c.self.view_is) (sym (delivered_past sent place past))
