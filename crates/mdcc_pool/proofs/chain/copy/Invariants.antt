use Rattle.std.proofs.Common.{◌≡◌, ◌≤◌, ◌+◌, ◌-◌, ◌/◌, ◌*◌, ◌++◌, length, take, drop, ℕ}
use Rattle.mdcc_pool.specs.Chains.{step, text}
use Rattle.mdcc_pool.proofs.chain.copy.Given as goal

abbrev pub invariant-loop-done : goal.invariant-loop-done
invariant-loop-done l =
    (l.done ≤ l.count)
    × (l.at ≡ step l.cells ((l.offset + l.done) / 60) l.first)
    × (length l.into ≡ length l.initial.into)
    × ((n : ℕ) → l.offset + l.count ≤ 60 * n → l.into ≡ take l.done (drop l.offset (text l.cells n l.first)) ++ drop l.done l.initial.into)

abbrev pub decreases-loop-done : goal.decreases-loop-done
decreases-loop-done l = l.count - l.done
