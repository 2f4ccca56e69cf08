use Rattle.std.proofs.Common.{◌≡◌, drop}
use Rattle.std.specs.Prelude.{nat_le, find, filter_map}
use Rattle.mdcc_struct.specs.Forced.{reports_with, mark_with}
use Rattle.mdcc_struct.specs.Maps.{value_of}
use Rattle.mdcc_struct.proofs.report.mark_with.Given as goal

abbrev pub invariant-loop-report : goal.invariant-loop-report
invariant-loop-report l =
    find (λ mark. nat_le l.least (reports_with l.reports l.tx mark)) (filter_map (λ report. value_of report.votes l.tx) (drop l.report-index l.reports))
    ≡ mark_with l.reports l.least l.tx
