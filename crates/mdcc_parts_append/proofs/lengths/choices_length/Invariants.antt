use Rattle.std.proofs.Common.{◌≡◌, ◌+◌, ◌*◌, ◌≤◌, drop}
use Rattle.mdcc_base.specs.Counts.{sum_over}
use Rattle.mdcc_def_messages.specs.Lengths.{choice_length}
use Rattle.mdcc_parts_append.proofs.lengths.choices_length.Given as goal

abbrev pub invariant-loop-choice : goal.invariant-loop-choice
invariant-loop-choice l = record {
  whole : l.total + sum_over choice_length (drop l.choice-index l.choices) ≡ 0 + sum_over choice_length l.choices;
  bound : l.total ≤ 0 + 1119 * l.choice-index;
}
