use Rattle.std.proofs.Common.{◌≡◌, take}
use Rattle.mdcc_struct.specs.Forced.{marks_reported}
use Rattle.mdcc_struct.proofs.report.marks_reported.Given as goal

abbrev pub invariant-loop-report : goal.invariant-loop-report
invariant-loop-report l = l.all ≡ marks_reported (take l.report-index l.reports)
