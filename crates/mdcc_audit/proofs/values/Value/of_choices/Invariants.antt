use Rattle.std.proofs.Common.{◌≡◌, take}
use Rattle.mdcc_audit.proofs.values.Value.of_choices.Given as goal

abbrev pub invariant-loop-choice : goal.invariant-loop-choice
invariant-loop-choice l = l.copies ≡ take l.choice-index l.choices
