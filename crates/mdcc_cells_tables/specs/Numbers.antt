-- Facts by their numbers. The number of a fact is the number of the older ones.
use Rattle.std.specs.Prelude.{List, Option, ℕ}
use Rattle.mdcc_def_messages.specs.declared.facts.Fact.{Fact}
use Rattle.mdcc_cells_chains.specs.Walks.{entry_at}

-- the fact of a number, of facts with the newest first
abbrev pub fact_numbered : List Fact → ℕ → Option Fact
fact_numbered facts number = entry_at facts number
