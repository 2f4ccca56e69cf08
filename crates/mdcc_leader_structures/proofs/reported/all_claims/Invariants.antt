use Rattle.std.proofs.Common.{◌≡◌, drop, fold}
use Rattle.mdcc_leader_structures.proofs.Gathered.{with_report}
use Rattle.mdcc_leader_structures.proofs.reported.all_claims.Given as goal

abbrev pub invariant-loop-report : goal.invariant-loop-report
invariant-loop-report l = fold with_report l.claims (drop l.report-index l.reports) ≡ fold with_report l.pending l.reports
