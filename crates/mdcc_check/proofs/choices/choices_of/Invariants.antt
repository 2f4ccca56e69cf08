use Rattle.std.proofs.Common.{◌≡◌, take}
use Rattle.std.specs.Prelude.{map}
use Rattle.mdcc_option.specs.Transaction.{choice_of_part, write_set_of_parts}
use Rattle.mdcc_check.proofs.choices.choices_of.Given as goal

abbrev pub invariant-loop-part : goal.invariant-loop-part
invariant-loop-part l = l.choices ≡ map (choice_of_part l.tx (write_set_of_parts l.parts)) (take l.part-index l.parts)
