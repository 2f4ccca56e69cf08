use Rattle.std.proofs.Common.{◌≡◌, ◌<◌, length}
use Rattle.std.specs.Prelude.{◌+◌, ◌-◌, ◌^◌, is_some, min}
use Rattle.mdcc_base.specs.Counts.{number_of}
use Rattle.mdcc_struct.specs.Maps.{value_of}
use Rattle.mdcc_cells_vote_walk.proofs.tallies.with_common.Given as goal

abbrev pub invariant-loop-tx : goal.invariant-loop-tx
invariant-loop-tx l = record {
  small : l.all < 2 ^ 64;
  counted : min (l.all + number_of (λ tag. is_some (value_of l.options tag.0)) l.tags) (2 ^ 64 - 1) ≡ min (l.count + number_of (λ tag. is_some (value_of l.options tag.0)) l.initial.tags) (2 ^ 64 - 1);
}

abbrev pub decreases-loop-tx : goal.decreases-loop-tx
decreases-loop-tx l = length l.tags
