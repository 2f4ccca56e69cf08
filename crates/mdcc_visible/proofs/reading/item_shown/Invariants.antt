use Rattle.std.proofs.Common.{◌≡◌, ◌++◌, drop, length, map}
use Rattle.std.specs.List.{enumerate_from}
use Rattle.mdcc_visible.specs.Deltas.{item_shown, value_shown}
use Rattle.mdcc_visible.proofs.reading.item_shown.Given as goal

abbrev pub invariant-loop-place : goal.invariant-loop-place
invariant-loop-place l = record {
  made : length l.values ≡ l.place;
  values : l.values ++ map (value_shown l.deltas) (enumerate_from l.place (drop l.place l.base-items)) ≡ (item_shown l.deltas l.item).values;
}
