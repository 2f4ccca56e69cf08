-- How the promises of a lead lie in memory.
use Rattle.std.specs.Prelude.{List, [], ℕ, ◌∷◌}
use Rattle.mdcc_def_protocol.specs.Volatile.{CountedPromise}
use Rattle.mdcc_struct.specs.declared.report.Report.{Report}

-- the promises that were counted: their reports, and the high ends of their ranges
abbrev pub counted_of : List Report → List ℕ → List CountedPromise
counted_of [] throughs = []
counted_of (report ∷ reports) [] = []
counted_of (report ∷ reports) (through ∷ throughs) =
    record { from = report.centre; through = through; reported = report.ballot; votes = report.votes } ∷ counted_of reports throughs
