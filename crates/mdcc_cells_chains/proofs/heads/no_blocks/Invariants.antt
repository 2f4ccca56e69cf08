use Rattle.std.proofs.Common.{◌≡◌, None, replicate}
use Rattle.mdcc_cells_chains.proofs.heads.no_blocks.Given as goal

abbrev pub invariant-loop-i : goal.invariant-loop-i
invariant-loop-i l = l.blocks.items ≡ replicate l._i None
