use Rattle.std.proofs.Common.{◌∙◌, sym, arith}
use Rattle.mdcc_leader_structures.proofs.Gathered.{all_gathered, with_report}
use Rattle.mdcc_leader_structures.proofs.Marks.{fold-end}
use Rattle.mdcc_leader_structures.proofs.reported.all_claims.Goals as goal

pub returns : goal.returns
returns c =
    sym (fold-end with_report c.loop-report.claims c.args.reports.now c.loop-report.report-index (omega arith))
    ∙ c.loop-report.invariant
    ∙ sym (all_gathered c.args.pending.now c.args.reports.now c.len-pending.ensures.ascending)
