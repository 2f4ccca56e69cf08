use Rattle.std.proofs.Common.{◌≤◌, None, length, replicate, ap, arith, sym, vec_capacity, ◌∙◌}
use Rattle.std.proofs.lemmas.List.{length-replicate}
use Rattle.mdcc_cells_chains.proofs.Blocks.{blocks-none, heads-length, heads-none, no_index}
use Rattle.mdcc_cells_chains.proofs.heads.Heads.clear.Goals as goal

pub invariant_of-self : goal.invariant_of-self
invariant_of-self c = (
  rw (c.clear_blocks.ensures, c.clear.ensures.items)
      (blocks-none (length c.self.inside.blocks.items) (vec_capacity c.clear.new.self) c.self.invariant.0.small (omega (arith, c.self.invariant.0.reserved, c.clear.ensures.capacity))),
  rw c.clear_blocks.ensures (omega (arith, length-replicate (length c.self.inside.blocks.items) no_index, c.self.invariant.1)),
)

pub returns : goal.returns
returns c =
    rw (c.clear_blocks.ensures, c.clear.ensures.items)
    (heads-none (length c.self.inside.blocks.items) c.self.inside.count
    ∙ ap (λ n. replicate n None) (sym (heads-length c.self.inside.blocks.items c.self.inside.heads.items c.self.inside.count) ∙ ap length c.self.view_is))
