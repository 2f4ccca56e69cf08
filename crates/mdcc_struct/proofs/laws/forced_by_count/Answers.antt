use Rattle.std.proofs.Common.{◌≡◌, ◌<◌, ◌*◌, length, ap, sym, ◌∙◌, arith}
use Rattle.mdcc_base.specs.Ballot.{is_fast}
use Rattle.mdcc_base.specs.Quorums.{threshold}
use Rattle.mdcc_struct.specs.Forced.{ballot_reported, marks_reported_at, marks_with, forced_of}
use Rattle.mdcc_struct.specs.Maps.{value_of}
use Rattle.mdcc_struct.proofs.Reports.{enough_forced, forced_enough, when_fast}
use Rattle.mdcc_struct.proofs.laws.forced_by_count.Goals as goal

pub returns : goal.returns
returns c sizes reports are many few fast tx mark =
    let least = threshold sizes (length reports) in
    let half : length reports < 2 * least = omega arith in
    let counted : forced_of sizes reports ≡ marks_with reports least =
    when_fast (is_fast (ballot_reported reports)) (marks_with reports least) (marks_reported_at reports (ballot_reported reports)) fast in
    let value = ap (λ marks. value_of marks tx) counted in
    (λ h. forced_enough reports least tx mark (sym value ∙ h), λ h. value ∙ enough_forced reports least tx mark half h)
