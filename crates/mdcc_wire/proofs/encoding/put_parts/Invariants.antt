use Rattle.std.proofs.Common.{◌≡◌, ◌+◌, ◌≤◌, ◌++◌, drop}
use Rattle.std.specs.Prelude.{vec_len, vec_capacity}
use Rattle.std.specs.List.{flat_map}
use Rattle.mdcc_base.specs.Counts.{sum_over}
use Rattle.mdcc_def_messages.specs.Bytes.{counted_bytes}
use Rattle.mdcc_def_messages.specs.SpelledParts.{part_bytes}
use Rattle.mdcc_def_messages.specs.Lengths.{part_length}
use Rattle.mdcc_wire.proofs.encoding.put_parts.Given as goal

abbrev pub invariant-loop-part : goal.invariant-loop-part
invariant-loop-part l = record {
  bytes : l.out.items ++ flat_map part_bytes (drop l.part-index l.parts) ≡ l.fn.out.items ++ counted_bytes part_bytes l.parts;
  len : vec_len l.out + sum_over part_length (drop l.part-index l.parts) ≡ vec_len l.fn.out + (1 + sum_over part_length l.parts);
  capacity : vec_capacity l.fn.out ≤ vec_capacity l.out;
}
