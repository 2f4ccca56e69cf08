use Rattle.std.proofs.Common.{length, ap, length}
use Rattle.mdcc_cells_chains.proofs.Filtered.{walk-within}
use Rattle.mdcc_cells_chains.proofs.Indexed.{head-on_way, chain-within, found-first}
use Rattle.mdcc_cells_chains.proofs.index.Index.first.Goals as goal

pub first_from-requires-clause-on_way : goal.first_from-requires-clause-on_way
first_from-requires-clause-on_way g c =
    let indexed = c.self.invariant.0 in
    rw c.deref.ensures.value
    (head-on_way g.K.IndexKey.hash_code c.self.inside.chains c.self.inside.keys.items c.args.key.now (g.K.IndexKey.same c.args.key.now) c.len.result c.head_of-from.result indexed
    (chain-within g.K.IndexKey.hash_code (length c.self.inside.chains.heads) c.args.key.now indexed.some) c.head_of-from.ensures)

pub returns-clause-value : goal.returns-clause-value
returns-clause-value g c =
    found-first (g.K.IndexKey.same c.args.key.now) c.deref.result.now c.self.inside.keys.items c.args.self.now.keys c.len.result c.first_from.result
    c.first_from.ensures c.deref.ensures.value (ap (λ k. k.keys) c.self.view_is) c.len.ensures.value

pub returns-clause-within : goal.returns-clause-within
returns-clause-within g c =
    let wanted = g.K.IndexKey.same c.args.key.now in
    let first = found-first wanted c.deref.result.now c.self.inside.keys.items c.args.self.now.keys c.len.result c.first_from.result
    c.first_from.ensures c.deref.ensures.value (ap (λ k. k.keys) c.self.view_is) c.len.ensures.value in
    rw first (walk-within wanted c.args.self.now.keys)
