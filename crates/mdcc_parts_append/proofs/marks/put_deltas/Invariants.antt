use Rattle.std.proofs.Common.{◌≡◌, ◌+◌, ◌≤◌, ◌++◌, drop}
use Rattle.std.specs.Prelude.{vec_len, vec_capacity}
use Rattle.std.specs.List.{flat_map}
use Rattle.mdcc_base.specs.Counts.{sum_over}
use Rattle.mdcc_def_messages.specs.Bytes.{counted_bytes}
use Rattle.mdcc_def_messages.specs.SpelledParts.{delta_bytes}
use Rattle.mdcc_def_messages.specs.Lengths.{delta_length}
use Rattle.mdcc_parts_append.proofs.marks.put_deltas.Given as goal

abbrev pub invariant-loop-delta : goal.invariant-loop-delta
invariant-loop-delta l = record {
  bytes : l.out.items ++ flat_map delta_bytes (drop l.delta-index l.adds) ≡ l.fn.out.items ++ counted_bytes delta_bytes l.adds;
  len : vec_len l.out + sum_over delta_length (drop l.delta-index l.adds) ≡ vec_len l.fn.out + 1 + sum_over delta_length l.adds;
  capacity : vec_capacity l.fn.out ≤ vec_capacity l.out;
}
