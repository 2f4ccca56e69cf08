use Rattle.std.proofs.Common.{◌≡◌, ◌+◌, ◌*◌, ◌≤◌, ◌++◌, drop}
use Rattle.std.specs.Prelude.{vec_len, vec_capacity}
use Rattle.std.specs.List.{flat_map}
use Rattle.mdcc_def_messages.specs.Bytes.{counted_bytes}
use Rattle.mdcc_def_messages.specs.SpelledParts.{amount_bytes}
use Rattle.mdcc_parts_append.proofs.appending.put_amounts.Given as goal

abbrev pub invariant-loop-amount : goal.invariant-loop-amount
invariant-loop-amount l = record {
  bytes : l.out.items ++ flat_map amount_bytes (drop l.amount-index l.amounts) ≡ l.fn.out.items ++ counted_bytes amount_bytes l.amounts;
  len : vec_len l.out ≡ vec_len l.fn.out + 1 + 9 * l.amount-index;
  capacity : vec_capacity l.fn.out ≤ vec_capacity l.out;
}
