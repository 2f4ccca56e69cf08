-- How many entries of the tables one fact brings, by the cells in which it lies.
use Rattle.std.specs.Prelude.{◌*◌, ◌≤◌, length}
use Rattle.mdcc_def_messages.specs.Lengths.{cells_needed}
use Rattle.mdcc_def_messages.specs.WellFormed.{IsWellFormedFact}
use Rattle.mdcc_def_messages.specs.declared.facts.Fact.{Fact}
use Rattle.mdcc_def_protocol.specs.Facts.{write_sets_from}
use Rattle.mdcc_def_protocol.specs.News.{keys_in}

-- a choice has at least 41 bytes, and a cell 60
abbrev pub KeysInCells : Type 0
KeysInCells = (fact : Fact) → IsWellFormedFact fact → length (keys_in fact) ≤ 2 * cells_needed fact

-- the choices of a vote, the offered one too
abbrev pub TransactionsInCells : Type 0
TransactionsInCells = (fact : Fact) → IsWellFormedFact fact → length (write_sets_from fact) ≤ 2 * cells_needed fact
