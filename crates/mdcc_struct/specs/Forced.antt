-- Which marks the promises of some centres force on a leader. (Fast Paxos.)
use Rattle.std.specs.Prelude.{ℕ, nat_le, List, [], Option, filter, filter_map, find, fold, length, option_map, if◌then◌else◌}
use Rattle.mdcc_base.specs.declared.identifiers.Ballot.{Ballot}
use Rattle.mdcc_base.specs.declared.identifiers.TxId.{TxId}
use Rattle.mdcc_base.specs.Ballot.{ballot_eq, ballot_max, fast_ballot, is_fast}
use Rattle.mdcc_base.specs.Counts.{number_of}
use Rattle.mdcc_base.specs.Sizes.{Sizes}
use Rattle.mdcc_base.specs.Quorums.{threshold}
use Rattle.mdcc_option.specs.declared.choices.Mark.{Mark}
use Rattle.mdcc_struct.specs.declared.report.Report.{Report}
use Rattle.mdcc_struct.specs.Maps.{value_of, union}
use Rattle.mdcc_struct.specs.Options.{Marks, is_mark}

-- how many of the reports have this mark for the transaction
abbrev pub reports_with : List Report → TxId → Mark → ℕ
reports_with reports tx mark = number_of (λ report. is_mark mark (value_of report.votes tx)) reports

-- the marks of all reports
abbrev pub marks_reported : List Report → Marks
marks_reported reports = fold (λ marks report. union marks report.votes) [] reports

-- the marks of the reports of one ballot
abbrev pub marks_reported_at : List Report → Ballot → Marks
marks_reported_at reports ballot = marks_reported (filter (λ report. ballot_eq report.ballot ballot) reports)

-- the greatest ballot reported
abbrev pub ballot_reported : List Report → Ballot
ballot_reported reports = fold (λ ballot report. ballot_max ballot report.ballot) fast_ballot reports

-- the first mark of a transaction that at least so many of the reports have
abbrev pub mark_with : List Report → ℕ → TxId → Option Mark
mark_with reports least tx =
    find (λ mark. nat_le least (reports_with reports tx mark)) (filter_map (λ report. value_of report.votes tx) reports)

-- the marks that at least so many of the reports have
abbrev pub marks_with : List Report → ℕ → Marks
marks_with reports least =
    filter_map (λ e. option_map (λ mark. (e.0, mark)) (mark_with reports least e.0)) (marks_reported reports)

-- at the fast ballot what enough of the reports have, at a classic ballot all that was voted at the greatest one
abbrev pub forced_of : Sizes → List Report → Marks
forced_of sizes reports =
    let ballot = ballot_reported reports in
    if is_fast ballot then marks_with reports (threshold sizes (length reports))
    else marks_reported_at reports ballot
