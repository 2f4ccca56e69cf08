use Rattle.std.proofs.Common.{◌≡◌, ◌≤◌, length, map, take}
use Rattle.mdcc_option.specs.OneCopy.{read_value}
use Rattle.mdcc_option.proofs.held.read_values.Given as goal

abbrev pub invariant-loop-sum : goal.invariant-loop-sum
invariant-loop-sum l = record {
  few : length l.sum-items ≤ 4;
  read : l.values ≡ map read_value (take l.sum-index l.sum-items);
}
