use Rattle.std.proofs.Common.{◌≡◌, ◌&&◌, drop}
use Rattle.std.specs.List.{list_any}
use Rattle.mdcc_base.specs.Ballot.{ballot_eq}
use Rattle.mdcc_def_protocol.specs.Leader.{is_differing}
use Rattle.mdcc_leader.proofs.lead.is_differing_at.Given as goal

abbrev pub invariant-loop-report : goal.invariant-loop-report
invariant-loop-report l =
    list_any (λ report. ballot_eq report.ballot l.reported && is_differing l.votes report.votes) (drop l.report-index l.reports)
    ≡ list_any (λ report. ballot_eq report.ballot l.reported && is_differing l.votes report.votes) l.reports
