use Rattle.std.proofs.Common.{length, sym, ◌∙◌, arith}
use Rattle.mdcc_cells_chains.proofs.Indexed.{has-within, head-on_way, index-on_way, chain-within}
use Rattle.mdcc_cells_chains.proofs.index.before.Goals as goal

pub next-requires : goal.next-requires
next-requires g c =
    omega (arith, has-within (g.K.IndexKey.same c.args.key.now) c.args.keys.now c.args.index (sym c.has_at.ensures ∙ c.if-has_at.true), c.requires.long)

pub returns-then-has_at : goal.returns-then-has_at
returns-then-has_at g c =
    index-on_way g.K.IndexKey.hash_code g.K.IndexKey.same c.args.chains.now c.args.keys.now c.args.key.now c.args.index c.next.result c.requires g.met.K.IndexKey.one
    (sym c.has_at.ensures ∙ c.if-has_at.true) c.next.ensures.value

pub returns-else-has_at : goal.returns-else-has_at
returns-else-has_at g c =
    head-on_way g.K.IndexKey.hash_code c.args.chains.now c.args.keys.now c.args.key.now (g.K.IndexKey.same c.args.key.now) c.args.index c.head_of.result c.requires
    (chain-within g.K.IndexKey.hash_code (length c.args.chains.now.heads) c.args.key.now c.requires.some) c.head_of.ensures
