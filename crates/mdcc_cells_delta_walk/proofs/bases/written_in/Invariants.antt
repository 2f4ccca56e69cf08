use Rattle.std.proofs.Common.{◌≡◌, ◌+◌, ℕ}
use Rattle.mdcc_cells_delta_walk.specs.Bases.{written_in}
use Rattle.mdcc_cells_delta_walk.proofs.bases.written_in.Given as goal

abbrev pub invariant-loop : goal.invariant-loop
invariant-loop l = (left : ℕ) → left + l.counter ≡ l.count → written_in l.key l.version left l.cursor ≡ written_in l.key l.version l.count l.initial.cursor
