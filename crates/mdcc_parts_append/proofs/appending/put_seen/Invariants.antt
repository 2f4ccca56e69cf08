use Rattle.std.proofs.Common.{◌≡◌, ◌+◌, ◌*◌, ◌≤◌, ◌++◌, drop}
use Rattle.std.specs.Prelude.{vec_len, vec_capacity}
use Rattle.std.specs.List.{flat_map}
use Rattle.mdcc_def_messages.specs.Bytes.{counted_bytes}
use Rattle.mdcc_def_messages.specs.SpelledParts.{tx_bytes}
use Rattle.mdcc_parts_append.proofs.appending.put_seen.Given as goal

abbrev pub invariant-loop-tx : goal.invariant-loop-tx
invariant-loop-tx l = record {
  bytes : l.out.items ++ flat_map tx_bytes (drop l.tx-index l.seen) ≡ l.fn.out.items ++ counted_bytes tx_bytes l.seen;
  len : vec_len l.out ≡ vec_len l.fn.out + 1 + 9 * l.tx-index;
  capacity : vec_capacity l.fn.out ≤ vec_capacity l.out;
}
