use Rattle.std.proofs.Common.{◌≡◌, ◌≤◌, ◌+◌, ◌-◌, length}
use Rattle.std.specs.Prelude.{vec_capacity}
use Rattle.mdcc_pool.specs.Chains.{extended}
use Rattle.mdcc_pool.proofs.region.Region.set.Given as goal

abbrev pub invariant-loop-self : goal.invariant-loop-self
invariant-loop-self l =
    (extended l.self-inside.size l.self-inside.cells.items ≡ extended l.initial.self-inside.size l.initial.self-inside.cells.items)
    × (l.self-inside.size ≡ l.initial.self-inside.size)
    × (length l.self-inside.cells.items ≤ l.self-inside.size)
    × (l.self-inside.size ≤ vec_capacity l.self-inside.cells)

abbrev pub decreases-loop-self : goal.decreases-loop-self
decreases-loop-self l = l.at + 1 - length l.self-inside.cells.items
