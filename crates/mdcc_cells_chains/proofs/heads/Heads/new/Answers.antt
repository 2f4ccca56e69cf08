use Rattle.std.proofs.Common.{◌+◌, ◌/◌, length, arith, vec_capacity}
use Rattle.std.proofs.lemmas.List.{length-replicate}
use Rattle.mdcc_cells_chains.proofs.Blocks.{blocks-none, heads-none, no_index}
use Rattle.mdcc_cells_chains.proofs.heads.Heads.new.Goals as goal

pub invariant_of-result : goal.invariant_of-result
invariant_of-result c = (
  rw (c.in_ok-no_blocks.ensures, c.in_ok-with_capacity.ensures.items)
      (blocks-none (c.args.count / 64 + 1) (vec_capacity c.in_ok-with_capacity.field-0) (omega (arith, c.ranges.count.fits)) (omega (arith, c.in_ok-with_capacity.ensures.exact))),
  rw c.in_ok-no_blocks.ensures (omega (arith, length-replicate (c.args.count / 64 + 1) no_index)),
)

pub returns : goal.returns
returns c = rw (c.in_ok-no_blocks.ensures, c.in_ok-with_capacity.ensures.items) (heads-none (c.args.count / 64 + 1) c.args.count)
