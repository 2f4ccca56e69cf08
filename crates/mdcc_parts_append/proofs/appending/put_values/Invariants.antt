use Rattle.std.proofs.Common.{◌≡◌, ◌+◌, ◌*◌, ◌≤◌, ◌++◌, drop}
use Rattle.std.specs.Prelude.{vec_len, vec_capacity}
use Rattle.std.specs.List.{flat_map}
use Rattle.mdcc_def_messages.specs.Bytes.{i64_bytes, counted_bytes}
use Rattle.mdcc_parts_append.proofs.appending.put_values.Given as goal

abbrev pub invariant-loop-value : goal.invariant-loop-value
invariant-loop-value l = record {
  bytes : l.out.items ++ flat_map i64_bytes (drop l.value-index l.values) ≡ l.fn.out.items ++ counted_bytes i64_bytes l.values;
  len : vec_len l.out ≡ vec_len l.fn.out + 1 + 8 * l.value-index;
  capacity : vec_capacity l.fn.out ≤ vec_capacity l.out;
}
