use Rattle.std.proofs.Common.{◌≡◌, ◌++◌, drop, flat_map}
use Rattle.std.specs.String.{string_bytes}
use Rattle.mdcc_def_language.specs.Report.{byte_text}
use Rattle.mdcc_check_print.proofs.print.write_body_bytes.Given as goal

abbrev pub invariant-loop-byte : goal.invariant-loop-byte
invariant-loop-byte l = string_bytes l.text ++ flat_map byte_text (drop l.byte-index l.body) ≡ string_bytes l.initial.text ++ flat_map byte_text l.body
