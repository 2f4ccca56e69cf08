use Rattle.std.proofs.Common.{◌≡◌, ◌+◌, drop, take, IsTrue}
use Rattle.std.specs.List.{list_all}
use Rattle.mdcc_option.specs.Bounds.{is_bound}
use Rattle.mdcc_option.specs.Schema.{bad_bound_from}
use Rattle.mdcc_option.proofs.schema.bad_bound.Given as goal

abbrev pub invariant-loop-pair : goal.invariant-loop-pair
invariant-loop-pair l = record {
  counted : l.number ≡ 1 + l.pair-index;
  left : bad_bound_from (1 + l.pair-index) (drop l.pair-index l.bounds) ≡ bad_bound_from 1 l.bounds;
  good : IsTrue (list_all is_bound (take l.pair-index l.bounds));
}
