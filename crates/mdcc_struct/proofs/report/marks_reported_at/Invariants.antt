use Rattle.std.proofs.Common.{◌≡◌, take}
use Rattle.mdcc_struct.specs.Forced.{marks_reported_at}
use Rattle.mdcc_struct.proofs.report.marks_reported_at.Given as goal

abbrev pub invariant-loop-report : goal.invariant-loop-report
invariant-loop-report l = l.all ≡ marks_reported_at (take l.report-index l.reports) l.ballot
