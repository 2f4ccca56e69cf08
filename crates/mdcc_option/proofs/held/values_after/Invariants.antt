use Rattle.std.proofs.Common.{◌≡◌, ◌++◌, drop, length, map}
use Rattle.std.specs.List.{enumerate_from}
use Rattle.mdcc_option.specs.OneCopy.{value_after, values_after}
use Rattle.mdcc_option.proofs.held.values_after.Given as goal

abbrev pub invariant-loop-place : goal.invariant-loop-place
invariant-loop-place l = record {
  made : length l.sums ≡ l.place;
  values : l.sums ++ map (value_after l.deltas) (enumerate_from l.place (drop l.place l.base-items)) ≡ values_after l.held;
}
