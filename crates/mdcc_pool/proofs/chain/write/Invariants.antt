use Rattle.std.proofs.Common.{◌≡◌, ◌-◌, length, ℕ}
use Rattle.mdcc_pool.specs.Chains.{chain_written, next_cell, step}
use Rattle.mdcc_pool.specs.Sizes.{cells_for}
use Rattle.mdcc_pool.proofs.chain.write.Given as goal

abbrev pub invariant-loop-i : goal.invariant-loop-i
invariant-loop-i l =
    (l.at ≡ step l.initial.cells l._i l.first)
    × (length l.cells ≡ length l.initial.cells)
    × ((c : ℕ) → next_cell l.cells c ≡ next_cell l.initial.cells c)
    × (chain_written l.cells l.rest (cells_for (length l.bytes) - l._i) l.at
    ≡ chain_written l.initial.cells l.bytes (cells_for (length l.bytes)) l.first)
