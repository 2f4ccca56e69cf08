use Rattle.mdcc_given_back.proofs.MarksLeft.{choice-by-rest, count_past-by-rest, entries-by-rest, entries-by-shown, report-by-rest, shown-by-rest, vote-by-rest}
use Rattle.mdcc_given_back.proofs.NextMark.{next_mark-by-rest}
use Rattle.mdcc_given_back.proofs.marks.marks_by_rest.Goals as goal

pub returns-clause-vote : goal.returns-clause-vote
returns-clause-vote c = vote-by-rest

pub returns-clause-shown : goal.returns-clause-shown
returns-clause-shown c = shown-by-rest

pub returns-clause-choice : goal.returns-clause-choice
returns-clause-choice c = choice-by-rest

pub returns-clause-report : goal.returns-clause-report
returns-clause-report c = report-by-rest

pub returns-clause-next : goal.returns-clause-next
returns-clause-next c = next_mark-by-rest

pub returns-clause-entries : goal.returns-clause-entries
returns-clause-entries c = entries-by-rest

pub returns-clause-entries_shown : goal.returns-clause-entries_shown
returns-clause-entries_shown c = entries-by-shown

pub returns-clause-past : goal.returns-clause-past
returns-clause-past c = count_past-by-rest
