use Rattle.std.proofs.Common.{◌≡◌, ◌++◌, drop, flat_map}
use Rattle.std.specs.String.{string_bytes}
use Rattle.mdcc_check_print.specs.Text.{part_text}
use Rattle.mdcc_check_print.proofs.print.write_parts.Given as goal

abbrev pub invariant-loop-part : goal.invariant-loop-part
invariant-loop-part l = string_bytes l.text ++ flat_map part_text (drop l.part-index l.parts) ≡ string_bytes l.initial.text ++ flat_map part_text l.parts
