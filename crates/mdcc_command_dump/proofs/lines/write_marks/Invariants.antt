use Rattle.std.proofs.Common.{◌≡◌, ◌++◌, drop}
use Rattle.std.specs.List.{flat_map}
use Rattle.std.specs.String.{string_bytes}
use Rattle.mdcc_command_dump.specs.Texts.{mark_line}
use Rattle.mdcc_command_dump.proofs.lines.write_marks.Given as goal

abbrev pub invariant-loop-index : goal.invariant-loop-index
invariant-loop-index l =
    string_bytes l.text ++ flat_map (mark_line l.number l.key l.version l.ballot) (drop l.index l.options)
    ≡ string_bytes l.fn.text ++ flat_map (mark_line l.number l.key l.version l.ballot) l.options
