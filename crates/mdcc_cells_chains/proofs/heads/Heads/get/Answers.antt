use Rattle.std.proofs.Common.{◌≡◌, ◌+◌, ◌*◌, ◌/◌, ◌%◌, ◌<◌, None, get_or, length, sym, ap, arith, vec_capacity, ◌∙◌}
use Rattle.mdcc_cells_chains.specs.Heads.{chain_head_in}
use Rattle.mdcc_cells_chains.proofs.Blocks.{block-below, block-within, head-read, read-is}
use Rattle.mdcc_cells_chains.proofs.heads.Heads.get.Goals as goal

pub index-requires : goal.index-requires
index-requires c =
    let blocks = c.self.inside.blocks.items in
    omega (arith, block-within blocks c.self.inside.heads.items c.args.self.now c.self.inside.count c.args.chain c.self.view_is c.requires c.self.invariant.1, c.self.inside.blocks.ok.0)

pub index-requires-in-Some : goal.index-requires-in-Some
index-requires-in-Some c =
    let blocks = c.self.inside.blocks.items in
    let heads = c.self.inside.heads.items in
    let within = block-within blocks heads c.args.self.now c.self.inside.count c.args.chain c.self.view_is c.requires c.self.invariant.1 in
    let is = read-is blocks (c.args.chain / 64) c.index.result.now within c.index.ensures ∙ c.in-Some.is in
    omega (arith, block-below blocks heads (vec_capacity c.self.inside.heads) c.args.chain c.in-Some.block c.self.invariant.0 is, c.self.inside.heads.ok.0)

pub returns-in-Some : goal.returns-in-Some
returns-in-Some c =
    let blocks = c.self.inside.blocks.items in
    let heads = c.self.inside.heads.items in
    let within = block-within blocks heads c.args.self.now c.self.inside.count c.args.chain c.self.view_is c.requires c.self.invariant.1 in
    let is = read-is blocks (c.args.chain / 64) c.index.result.now within c.index.ensures ∙ c.in-Some.is in
    let below = block-below blocks heads (vec_capacity c.self.inside.heads) c.args.chain c.in-Some.block c.self.invariant.0 is in
    sym
    (head-read blocks heads c.args.self.now c.self.inside.count c.args.chain c.self.view_is c.requires
    ∙ ap (λ found. chain_head_in heads found c.args.chain) is
    ∙ read-is heads (c.in-Some.block * 64 + c.args.chain % 64) c.index-in-Some.result.now below c.index-in-Some.ensures)

pub returns-in-None : goal.returns-in-None
returns-in-None c =
    let blocks = c.self.inside.blocks.items in
    let heads = c.self.inside.heads.items in
    let within = block-within blocks heads c.args.self.now c.self.inside.count c.args.chain c.self.view_is c.requires c.self.invariant.1 in
    let is = read-is blocks (c.args.chain / 64) c.index.result.now within c.index.ensures ∙ c.in-None.is in
    sym
    (head-read blocks heads c.args.self.now c.self.inside.count c.args.chain c.self.view_is c.requires
    ∙ ap (λ found. chain_head_in heads found c.args.chain) is)
