use Rattle.std.proofs.Common.{◌≡◌, arith, length}
use Rattle.mdcc_serve_site.proofs.Sizes.{counts_fact}
use Rattle.mdcc_serve_site.proofs.pending.PendingBytes.push_fact.Goals as goal

pub invariant_of-self-2 : goal.invariant_of-self-2
invariant_of-self-2 c =
    let long : c.len-length.result ≡ length c.from_vec.result = rw c.from_vec.ensures (omega (arith, c.len-length.ensures, c.in_ok-payload.payload.ok.0)) in
    let more = counts_fact c.self.inside.payloads c.self.inside.messages c.from_vec.result c.self.inside.size c.len-length.result c.self.invariant.size long in
    rw c.in_ok-push.ensures.ok (record { size = omega (more, c.saturating_add-self-inside.ensures, arith) })
