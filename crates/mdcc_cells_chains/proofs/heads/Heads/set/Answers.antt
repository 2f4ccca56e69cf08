use Rattle.std.proofs.Common.{◌/◌, ◌<◌, Some, length, set, ap, vec_capacity, ◌∙◌}
use Rattle.mdcc_cells_chains.proofs.Blocks.{block-within, chain-below, heads-same, heads-set}
use Rattle.mdcc_cells_chains.proofs.heads.Heads.set.Goals as goal

pub block_at-block-requires-clause-within : goal.block_at-block-requires-clause-within
block_at-block-requires-clause-within c =
    block-within c.self.inside.blocks.items c.self.inside.heads.items c.args.self.now c.self.inside.count c.args.chain c.self.view_is c.requires c.self.invariant.1

pub returns : goal.returns
returns c =
    let blocks = c.block_at-block.new.blocks.items in
    let heads = c.block_at-block.new.heads.items in
    let count = c.self.inside.count in
    let within = chain-below c.self.inside.blocks.items c.self.inside.heads.items c.args.self.now count c.args.chain c.self.view_is c.requires in
    heads-set blocks heads (vec_capacity c.block_at-block.new.heads) count c.args.chain c.block_at-block.result (Some c.args.index) c.block_at-block.ensures.blocks within c.block_at-block.ensures.number
    ∙ ap (λ old. set old c.args.chain (Some c.args.index)) (heads-same c.self.inside.blocks.items c.self.inside.heads.items blocks heads count c.block_at-block.ensures.same ∙ c.self.view_is)
