-- What counting forces at the fast ballot.
use Rattle.std.specs.Prelude.{◌≡◌, ◌≤◌, ◌↔◌, IsTrue, List, length, Some}
use Rattle.mdcc_base.specs.declared.identifiers.TxId.{TxId}
use Rattle.mdcc_base.specs.AreQuorums.{AreQuorums}
use Rattle.mdcc_base.specs.Ballot.{is_fast}
use Rattle.mdcc_base.specs.Quorums.{threshold}
use Rattle.mdcc_base.specs.Sizes.{Sizes}
use Rattle.mdcc_option.specs.declared.choices.Mark.{Mark}
use Rattle.mdcc_struct.specs.declared.report.Report.{Report}
use Rattle.mdcc_struct.specs.Forced.{ballot_reported, forced_of, reports_with}
use Rattle.mdcc_struct.specs.Maps.{value_of}

-- of the reports of a classic quorum at least, where nothing was voted at a classic ballot,
-- a mark is forced exactly where as many have it as show that a fast quorum may have voted it
abbrev pub ForcedByCount : Type 0
ForcedByCount =
    (sizes : Sizes) (reports : List Report) → AreQuorums sizes
    → sizes.classic ≤ length reports → length reports ≤ sizes.centres → IsTrue (is_fast (ballot_reported reports))
    → (tx : TxId) (mark : Mark)
    → (value_of (forced_of sizes reports) tx ≡ Some mark) ↔ (threshold sizes (length reports) ≤ reports_with reports tx mark)
