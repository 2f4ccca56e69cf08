use Rattle.std.proofs.Common.{◌≡◌, ◌≤◌, ◌+◌, drop}
use Rattle.mdcc_struct.specs.Forced.{reports_with}
use Rattle.mdcc_struct.proofs.report.reports_with.Given as goal

abbrev pub invariant-loop-report : goal.invariant-loop-report
invariant-loop-report l = record {
  value : l.count + reports_with (drop l.report-index l.reports) l.tx l.mark ≡ reports_with l.reports l.tx l.mark;
  bound : l.count ≤ l.report-index;
}
