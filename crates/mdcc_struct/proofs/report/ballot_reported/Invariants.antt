use Rattle.std.proofs.Common.{◌≡◌, take}
use Rattle.mdcc_struct.specs.Forced.{ballot_reported}
use Rattle.mdcc_struct.proofs.report.ballot_reported.Given as goal

abbrev pub invariant-loop-report : goal.invariant-loop-report
invariant-loop-report l = l.ballot ≡ ballot_reported (take l.report-index l.reports)
