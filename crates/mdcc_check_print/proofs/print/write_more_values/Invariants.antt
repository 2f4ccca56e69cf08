use Rattle.std.proofs.Common.{◌≡◌, ◌++◌, drop}
use Rattle.std.specs.String.{string_bytes}
use Rattle.mdcc_sched.specs.Texts.{more_values_text}
use Rattle.mdcc_check_print.proofs.print.write_more_values.Given as goal

abbrev pub invariant-loop-value : goal.invariant-loop-value
invariant-loop-value l = string_bytes l.text ++ more_values_text (drop l.value-index l.values) ≡ string_bytes l.initial.text ++ more_values_text l.values
