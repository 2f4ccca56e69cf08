use Rattle.std.proofs.Common.{◌≡◌, ◌++◌, drop, flat_map}
use Rattle.std.specs.String.{string_bytes}
use Rattle.mdcc_command_audit.specs.Texts.{verdict_line}
use Rattle.mdcc_command_audit.proofs.texts.write_verdicts.Given as goal

abbrev pub invariant-loop-e : goal.invariant-loop-e
invariant-loop-e l = string_bytes l.text ++ flat_map verdict_line (drop l.e-index l.verdicts) ≡ string_bytes l.initial.text ++ flat_map verdict_line l.verdicts
