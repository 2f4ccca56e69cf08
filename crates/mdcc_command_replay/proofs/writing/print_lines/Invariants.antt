use Rattle.std.proofs.Common.{◌≡◌, ◌++◌, drop}
use Rattle.mdcc_def_language.specs.Report.{lines_text}
use Rattle.mdcc_command_replay.proofs.writing.print_lines.Given as goal

abbrev pub invariant-loop-line : goal.invariant-loop-line
invariant-loop-line l = l.text.items ++ lines_text (drop l.line-index l.lines) ≡ l.initial.text.items ++ lines_text l.lines
