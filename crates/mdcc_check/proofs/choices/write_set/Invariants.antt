use Rattle.std.proofs.Common.{◌≡◌, take}
use Rattle.mdcc_option.specs.Transaction.{write_set_of_parts}
use Rattle.mdcc_check.proofs.choices.write_set.Given as goal

abbrev pub invariant-loop-part : goal.invariant-loop-part
invariant-loop-part l = l.write_set ≡ write_set_of_parts (take l.part-index l.parts)
