use Rattle.std.proofs.Common.{arith}
use Rattle.mdcc_serve_site.proofs.Sizes.{counts_message}
use Rattle.mdcc_serve_site.proofs.pending.PendingBytes.push_message.Goals as goal

pub invariant_of-self-2 : goal.invariant_of-self-2
invariant_of-self-2 c =
    let more = counts_message c.self.inside.payloads c.self.inside.messages c.in_ok-message.message c.self.inside.size c.length_of-length.result c.self.invariant.size c.length_of-length.ensures in
    rw c.in_ok-push.ensures.ok (record { size = omega (more, c.saturating_add-self-inside.ensures, arith) })
