use Rattle.std.proofs.Common.{◌≡◌, ◌≤◌, ◌++◌, drop, filter_map, length, option_and_then}
use Rattle.mdcc_def_protocol.specs.Marks.{choice_in}
use Rattle.mdcc_learner.proofs.outcome.choices_in.Given as goal

abbrev pub invariant-loop-mark : goal.invariant-loop-mark
invariant-loop-mark l = record {
  taken : l.choices ++ filter_map (λ mark. option_and_then choice_in mark) (drop l.mark-index l.marks) ≡ filter_map (λ mark. option_and_then choice_in mark) l.marks;
  fits : length l.choices ≤ l.mark-index;
}
