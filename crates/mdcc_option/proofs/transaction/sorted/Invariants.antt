use Rattle.std.proofs.Common.{◌≡◌, take, length}
use Rattle.mdcc_option.specs.Parts.{sorted_parts}
use Rattle.mdcc_option.proofs.transaction.sorted.Given as goal

abbrev pub invariant-loop-part : goal.invariant-loop-part
invariant-loop-part l = record {
  sorted : l.sorted ≡ sorted_parts (take l.part-index l.parts);
  count : length l.sorted ≡ l.part-index;
}
