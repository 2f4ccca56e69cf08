use Rattle.mdcc_given_back.proofs.MarksLeft.{choice-stays, count_past-stays, entries-stay, entries_at-stay, mark_after-stays, mark_below-stays, report-stays, shown-stays, vote-stays}
use Rattle.mdcc_given_back.proofs.marks.mark_rests.Goals as goal

pub returns-clause-vote : goal.returns-clause-vote
returns-clause-vote c = vote-stays

pub returns-clause-shown : goal.returns-clause-shown
returns-clause-shown c = shown-stays

pub returns-clause-choice : goal.returns-clause-choice
returns-clause-choice c = choice-stays

pub returns-clause-entries : goal.returns-clause-entries
returns-clause-entries c = entries-stay

pub returns-clause-entries_at : goal.returns-clause-entries_at
returns-clause-entries_at c = entries_at-stay

pub returns-clause-report : goal.returns-clause-report
returns-clause-report c = report-stays

pub returns-clause-below : goal.returns-clause-below
returns-clause-below c = mark_below-stays

pub returns-clause-next : goal.returns-clause-next
returns-clause-next c = mark_after-stays

pub returns-clause-past : goal.returns-clause-past
returns-clause-past c = count_past-stays
