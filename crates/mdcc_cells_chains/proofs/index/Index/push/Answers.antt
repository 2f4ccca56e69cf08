use Rattle.std.proofs.Common.{◌≡◌, ◌<◌, true, length, ap, ◌∙◌, arith, rules}
use Rattle.std.specs.Prelude.{is_ok}
use Rattle.std.proofs.lemmas.List.{length-reverse}
use Rattle.mdcc_cells_chains.specs.Keyed.{chain_of}
use Rattle.mdcc_cells_chains.proofs.Indexed.{indexed-pushed}
use Rattle.mdcc_cells_chains.proofs.index.Index.push.Goals as goal

pub invariant_of-self : goal.invariant_of-self
invariant_of-self g c =
    let old = c.self.inside.chains in
    let keys = c.self.inside.keys.items in
    let indexed = c.self.invariant.0 in
    let free : length c.self.inside.chains.links < c.self.inside.chains.room =
    omega (arith, c.requires, ap (λ k. k.room) c.self.view_is, ap (λ k. length k.keys) c.self.view_is, length-reverse keys, indexed.long) in
    let ok : is_ok c.push-2.result ≡ true = search rules in
    let within : c.chain_of-chain.result < length c.self.inside.chains.heads = omega (arith, c.chain_of-chain.ensures.within, c.count.ensures) in
    let chain = c.chain_of-chain.ensures.value ∙ ap (λ n. chain_of g.K.IndexKey.hash_code n c.args.key) c.count.ensures in (
      rw (c.push-2.ensures.items, ok)
          (indexed-pushed g.K.IndexKey.hash_code old c.push.new.self keys c.args.key c.chain_of-chain.result indexed chain within free c.push.ensures.heads c.push.ensures.links c.push.ensures.room),
      omega (arith, c.push.ensures.room, c.self.invariant.1, c.push-2.ensures.capacity),
    )
