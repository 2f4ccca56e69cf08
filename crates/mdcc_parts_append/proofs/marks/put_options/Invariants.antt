use Rattle.std.proofs.Common.{◌≡◌, ◌+◌, ◌≤◌, ◌++◌, drop}
use Rattle.std.specs.Prelude.{vec_len, vec_capacity}
use Rattle.std.specs.List.{flat_map}
use Rattle.mdcc_base.specs.Counts.{sum_over}
use Rattle.mdcc_def_messages.specs.SpelledParts.{entry_bytes, options_bytes}
use Rattle.mdcc_def_messages.specs.Lengths.{entry_length, options_length}
use Rattle.mdcc_parts_append.proofs.marks.put_options.Given as goal

abbrev pub invariant-loop-place : goal.invariant-loop-place
invariant-loop-place l = record {
  bytes : l.out.items ++ flat_map (λ e. entry_bytes e.0 e.1) (drop l.place l.options) ≡ l.fn.out.items ++ options_bytes l.options;
  len : vec_len l.out + sum_over (λ e. entry_length e.1) (drop l.place l.options) ≡ vec_len l.fn.out + options_length l.options;
  capacity : vec_capacity l.fn.out ≤ vec_capacity l.out;
}
