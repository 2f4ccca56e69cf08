use Rattle.std.proofs.Common.{◌≡◌, ◌≤◌}
use Rattle.std.specs.HashMap.{get, spare}
use Rattle.std.specs.Map.{update_all}
use Rattle.std.specs.Vec.Iter.{into_iter_items, into_iter_len}
use Rattle.mdcc_base.specs.Key.{key_eq}
use Rattle.mdcc_option.proofs.one_copy.put_all.Given as goal

abbrev pub invariant-loop-key : goal.invariant-loop-key
invariant-loop-key l = record {
  room : into_iter_len l.key-iterator ≤ spare l.items;
  left : update_all key_eq (get key_eq l.items) (into_iter_items l.key-iterator)
      ≡ update_all key_eq (get key_eq l.initial.items) (into_iter_items l.initial.key-iterator);
}
