-- What votes force at a classic ballot.
use Rattle.std.specs.Prelude.{◌≡◌, ◌↔◌, false, Contains, List, Some}
use Rattle.mdcc_base.specs.declared.identifiers.TxId.{TxId}
use Rattle.mdcc_base.specs.Ballot.{is_fast}
use Rattle.mdcc_base.specs.Sizes.{Sizes}
use Rattle.mdcc_option.specs.declared.choices.Mark.{Mark}
use Rattle.mdcc_struct.specs.declared.report.Report.{Report}
use Rattle.mdcc_struct.specs.Forced.{ballot_reported, forced_of}
use Rattle.mdcc_struct.specs.Maps.{value_of}

-- a report of the greatest ballot has the mark
abbrev pub IsVoted : List Report → TxId → Mark → Type 0
IsVoted reports tx mark =
    (report : Report) × Contains reports report × (report.ballot ≡ ballot_reported reports) × (value_of report.votes tx ≡ Some mark)

-- the reports of the greatest ballot have one mark of a transaction
abbrev pub VotesAgree : List Report → Type 0
VotesAgree reports = (tx : TxId) (mark other : Mark) → IsVoted reports tx mark → IsVoted reports tx other → mark ≡ other

-- where the greatest ballot is classic and its votes agree, a mark is forced exactly where it was voted there
abbrev pub ForcedByVote : Type 0
ForcedByVote =
    (sizes : Sizes) (reports : List Report) → is_fast (ballot_reported reports) ≡ false → VotesAgree reports
    → (tx : TxId) (mark : Mark) → (value_of (forced_of sizes reports) tx ≡ Some mark) ↔ IsVoted reports tx mark
