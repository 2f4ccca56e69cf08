use Rattle.std.proofs.Common.{◌≡◌, ◌+◌, ℕ}
use Rattle.mdcc_cells_delta_walk.specs.Passing.{after_counted_keys}
use Rattle.mdcc_cells_delta_walk.proofs.passing.pass_written.Given as goal

abbrev pub invariant-loop : goal.invariant-loop
invariant-loop l = (left : ℕ) → left + l.counter ≡ l.count → after_counted_keys left l.cursor ≡ after_counted_keys l.count l.initial.cursor
