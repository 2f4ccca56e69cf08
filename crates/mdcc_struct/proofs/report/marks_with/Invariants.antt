use Rattle.std.proofs.Common.{◌≡◌, ◌++◌, drop}
use Rattle.std.specs.Prelude.{filter_map, option_map}
use Rattle.mdcc_struct.specs.Forced.{mark_with, marks_with}
use Rattle.mdcc_struct.specs.Fields.{marks_in}
use Rattle.mdcc_struct.proofs.report.marks_with.Given as goal

abbrev pub invariant-loop-i : goal.invariant-loop-i
invariant-loop-i l =
    l.enough ++ filter_map (λ e. option_map (λ mark. (e.0, mark)) (mark_with l.reports l.least e.0)) (drop l.i (marks_in l.all-inside.accepted.items l.all-inside.entries.items))
    ≡ marks_with l.reports l.least
