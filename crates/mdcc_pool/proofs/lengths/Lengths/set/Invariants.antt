use Rattle.std.proofs.Common.{◌≡◌, ◌≤◌, ◌+◌, ◌-◌, length}
use Rattle.std.specs.Prelude.{vec_capacity}
use Rattle.mdcc_pool.specs.Pool.{padded_to}
use Rattle.mdcc_pool.proofs.lengths.Lengths.set.Given as goal

abbrev pub invariant-loop-self : goal.invariant-loop-self
invariant-loop-self l =
    (padded_to l.self-inside.size l.self-inside.lens.items ≡ padded_to l.initial.self-inside.size l.initial.self-inside.lens.items)
    × (l.self-inside.size ≡ l.initial.self-inside.size)
    × (length l.self-inside.lens.items ≤ l.self-inside.size)
    × (l.self-inside.size ≤ vec_capacity l.self-inside.lens)

abbrev pub decreases-loop-self : goal.decreases-loop-self
decreases-loop-self l = l.at + 1 - length l.self-inside.lens.items
