use Rattle.std.proofs.Common.{◌≡◌, length, ap, arith, vec_capacity}
use Rattle.mdcc_cells_chains.proofs.Linked.{links-push}
use Rattle.mdcc_cells_chains.proofs.chains.Chains.push.Goals as goal

pub invariant_of-self : goal.invariant_of-self
invariant_of-self c =
    let heads = c.self.inside.heads in
    let links = c.self.inside.links.items in
    let len : c.len-index.result ≡ length links = omega (arith, c.len-index.ensures, c.self.inside.links.ok.0) in
    rw (c.set.ensures, len, c.push_reserved.ensures.items)
    (links-push heads links c.self.inside.room (vec_capacity c.self.inside.links) (vec_capacity c.push_reserved.new.self) c.args.chain c.get.result c.self.invariant
    (omega (arith, c.requires.chain, ap (λ l. length l.heads) c.self.view_is))
    (omega (arith, c.requires.room, ap (λ l. length l.links) c.self.view_is, ap (λ l. l.room) c.self.view_is))
    c.get.ensures (omega (arith, c.push_reserved.ensures.capacity)))
