use Rattle.std.proofs.Common.{◌≡◌, ◌+◌, ◌≤◌, ◌++◌, drop}
use Rattle.std.specs.Prelude.{vec_len, vec_capacity}
use Rattle.std.specs.List.{flat_map}
use Rattle.mdcc_base.specs.Counts.{sum_over}
use Rattle.mdcc_def_messages.specs.Bytes.{counted_bytes}
use Rattle.mdcc_def_messages.specs.SpelledParts.{choice_bytes}
use Rattle.mdcc_def_messages.specs.Lengths.{choice_length}
use Rattle.mdcc_parts_append.proofs.marks.put_choices.Given as goal

abbrev pub invariant-loop-choice : goal.invariant-loop-choice
invariant-loop-choice l = record {
  bytes : l.out.items ++ flat_map choice_bytes (drop l.choice-index l.choices) ≡ l.fn.out.items ++ counted_bytes choice_bytes l.choices;
  len : vec_len l.out + sum_over choice_length (drop l.choice-index l.choices) ≡ vec_len l.fn.out + 1 + sum_over choice_length l.choices;
  capacity : vec_capacity l.fn.out ≤ vec_capacity l.out;
}
