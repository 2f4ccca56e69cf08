use Rattle.std.proofs.Common.{◌≡◌, ◌++◌, drop}
use Rattle.std.specs.String.{string_bytes}
use Rattle.mdcc_check_print.specs.Writing.{more_amounts_text}
use Rattle.mdcc_check_print.proofs.print.write_more_amounts.Given as goal

abbrev pub invariant-loop-amount : goal.invariant-loop-amount
invariant-loop-amount l = string_bytes l.text ++ more_amounts_text (drop l.amount-index l.amounts) ≡ string_bytes l.initial.text ++ more_amounts_text l.amounts
