use Rattle.std.proofs.Common.{◌≡◌, ◌+◌, ◌*◌, ◌/◌, ◌<◌, ◌≤◌, None, true, get_or, length, arith, rules, vec_capacity, ◌∙◌}
use Rattle.std.specs.Prelude.{is_ok}
use Rattle.mdcc_cells_chains.specs.Heads.{used}
use Rattle.mdcc_cells_chains.proofs.Blocks.{blocks-more, heads-more, read-is, used-below}
use Rattle.mdcc_cells_chains.proofs.heads.block_at.Goals as goal

pub overflow_cast-block : goal.overflow_cast-block
overflow_cast-block c =
    let blocks = c.args.blocks.now.items in
    let free : get_or c.args.blocks.now.items c.args.at None ≡ None = read-is blocks c.args.at c.index.result.now c.requires.within c.index.ensures ∙ c.in-None.is in
    omega (arith, c.len.ensures, c.args.heads.now.ok.0, c.requires.blocks.long, c.requires.blocks.small, used-below blocks c.args.at c.requires.within free)

pub unwrap-requires : goal.unwrap-requires
unwrap-requires c =
    let blocks = c.args.blocks.now.items in
    let free : get_or c.args.blocks.now.items c.args.at None ≡ None = read-is blocks c.args.at c.index.result.now c.requires.within c.index.ensures ∙ c.in-None.is in
    c.extend_from_slice.ensures.succeeds (omega (arith, c.args.heads.now.ok.0, c.requires.blocks.long, c.requires.blocks.reserved, used-below blocks c.args.at c.requires.within free))

pub returns-in-None-clause-blocks : goal.returns-in-None-clause-blocks
returns-in-None-clause-blocks c =
    let blocks = c.args.blocks.now.items in
    let heads = c.args.heads.now.items in
    let free : get_or c.args.blocks.now.items c.args.at None ≡ None = read-is blocks c.args.at c.index.result.now c.requires.within c.index.ensures ∙ c.in-None.is in
    let block : c.len.result / 64 ≡ used c.args.blocks.now.items = omega (arith, c.len.ensures, c.args.heads.now.ok.0, c.requires.blocks.long) in
    let ok : is_ok c.extend_from_slice.result ≡ true = search rules in
    rw (block, c.extend_from_slice.ensures.items, ok)
    (blocks-more blocks heads (vec_capacity c.args.heads.now) (vec_capacity c.extend_from_slice.new.self) c.args.at c.requires.blocks c.requires.within free c.extend_from_slice.ensures.capacity)

pub returns-in-None-clause-same : goal.returns-in-None-clause-same
returns-in-None-clause-same c chain =
    let blocks = c.args.blocks.now.items in
    let heads = c.args.heads.now.items in
    let free : get_or c.args.blocks.now.items c.args.at None ≡ None = read-is blocks c.args.at c.index.result.now c.requires.within c.index.ensures ∙ c.in-None.is in
    let block : c.len.result / 64 ≡ used c.args.blocks.now.items = omega (arith, c.len.ensures, c.args.heads.now.ok.0, c.requires.blocks.long) in
    let ok : is_ok c.extend_from_slice.result ≡ true = search rules in
    rw (block, c.extend_from_slice.ensures.items, ok)
    (heads-more blocks heads (vec_capacity c.args.heads.now) c.args.at chain c.requires.blocks c.requires.within free)
