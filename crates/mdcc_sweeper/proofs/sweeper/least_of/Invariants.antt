use Rattle.std.proofs.Common.{◌≡◌, ◌+◌, ◌-◌, ℕ}
use Rattle.std.specs.List.{fold, range_with_len}
use Rattle.std.specs.Prelude.{min}
use Rattle.mdcc_base.specs.Quorums.{all_centres}
use Rattle.mdcc_def_protocol.specs.Floors.{mark_told}
use Rattle.mdcc_sweeper.proofs.sweeper.least_of.Given as goal

abbrev pub invariant-loop-from : goal.invariant-loop-from
invariant-loop-from l =
    let told : ℕ → ℕ → ℕ = λ least from. min least (mark_told l.told from l.centre l.epoch) in
    fold told l.least (range_with_len l.from (l.quorums.centres + 1 - l.from)) ≡ fold told l.initial.least (all_centres l.quorums)
