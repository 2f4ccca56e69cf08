use Rattle.std.proofs.Common.{◌≡◌, ◌+◌, ◌≤◌, ◌++◌, drop}
use Rattle.std.specs.Prelude.{vec_len, vec_capacity}
use Rattle.std.specs.List.{flat_map}
use Rattle.mdcc_base.specs.Counts.{sum_over}
use Rattle.mdcc_def_messages.specs.Bytes.{counted_bytes}
use Rattle.mdcc_def_messages.specs.SpelledParts.{written_bytes}
use Rattle.mdcc_def_messages.specs.Lengths.{written_length}
use Rattle.mdcc_parts_append.proofs.appending.put_write_set.Given as goal

abbrev pub invariant-loop-written : goal.invariant-loop-written
invariant-loop-written l = record {
  bytes : l.out.items ++ flat_map written_bytes (drop l.written-index l.write_set) ≡ l.fn.out.items ++ counted_bytes written_bytes l.write_set;
  len : vec_len l.out + sum_over written_length (drop l.written-index l.write_set) ≡ vec_len l.fn.out + 1 + sum_over written_length l.write_set;
  capacity : vec_capacity l.fn.out ≤ vec_capacity l.out;
}
