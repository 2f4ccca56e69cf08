use Rattle.std.proofs.Common.{◌≡◌, ◌++◌, drop, length, map}
use Rattle.std.specs.List.{enumerate_from}
use Rattle.mdcc_option.specs.OneCopy.{value_after, values_after, with_delta}
use Rattle.mdcc_option.proofs.held.values_with.Given as goal

abbrev pub invariant-loop-place : goal.invariant-loop-place
invariant-loop-place l = record {
  made : length l.sums ≡ l.place;
  values : l.sums ++ map (value_after (with_delta l.deltas l.delta)) (enumerate_from l.place (drop l.place l.base-items))
      ≡ values_after (record l.held { deltas = with_delta l.held.deltas l.delta });
}
