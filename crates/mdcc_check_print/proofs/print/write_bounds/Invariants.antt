use Rattle.std.proofs.Common.{◌≡◌, ◌++◌, drop, flat_map}
use Rattle.std.specs.String.{string_bytes}
use Rattle.mdcc_check_print.specs.Text.{bound_text}
use Rattle.mdcc_check_print.proofs.print.write_bounds.Given as goal

abbrev pub invariant-loop-pair : goal.invariant-loop-pair
invariant-loop-pair l = string_bytes l.text ++ flat_map bound_text (drop l.pair-index l.bounds) ≡ string_bytes l.initial.text ++ flat_map bound_text l.bounds
