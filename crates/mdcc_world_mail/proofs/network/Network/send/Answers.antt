use Rattle.std.proofs.Common.{◌<◌, ◌+◌, ◌^◌, ◌-◌, arith, length}
use Rattle.mdcc_world_mail.proofs.Firsts.{cursors_front, length_under}
use Rattle.mdcc_world_mail.proofs.network.Network.send.Goals as goal

pub invariant_of-self-2 : goal.invariant_of-self-2
invariant_of-self-2 c =
    let sent = c.self.inside.messages.items in
    let more = c.into_messages-messages.result.items in
    let under : length sent + length more < 2 ^ 32 - 1 =
    omega (arith, c.self.invariant.1, c.if-len.false, c.len.ensures, c.len-2.ensures, c.self.inside.messages.ok.0, c.into_messages-messages.result.ok.0) in
    rw c.in_ok-append.ensures.items (cursors_front c.self.inside.cursors sent more c.self.invariant.0, length_under sent more (2 ^ 32 - 1) under)
