-- Cells enough for one round trip.
use Rattle.std.specs.List.{AllByRecursion}
use Rattle.std.specs.Prelude.{List, ℕ, ◌+◌, ◌++◌, ◌≤◌}
use Rattle.mdcc_base.specs.Counts.{sum_over}
use Rattle.mdcc_def_ledger.specs.Ledger.{facts_of}
use Rattle.mdcc_def_messages.specs.Lengths.{cells_needed}
use Rattle.mdcc_def_messages.specs.declared.facts.Fact.{Fact}
use Rattle.mdcc_option.specs.declared.choices.Choice.{Choice}
use Rattle.mdcc_option.specs.declared.choices.Outcome.{Outcome}
use Rattle.mdcc_def_protocol.specs.Volatile.{Undecided}
use Rattle.mdcc_def_simulation.specs.State.{Happened, World}
use Rattle.mdcc_theorem_round_trip.specs.Messages.{accepting_fact}
use Rattle.mdcc_theorem_round_trip.specs.RoundTrips.{AreDelivered, AreUndropped, EndsWithCommit, IsReady}
use Rattle.mdcc_def_protocol.specs.Cells.{cells_held}

-- the cells that a member needs for its votes on the choices
abbrev pub cells_of_votes : List Choice → ℕ
cells_of_votes choices = sum_over (λ choice. cells_needed (accepting_fact choice)) choices

-- each member has cells spare for its votes on the choices, and the centre has them for as many votes and for the commit
pub record HaveCells (w : World) (a : ℕ) (t : Undecided) (members : List ℕ) : Type 0 where
  pub votes : AllByRecursion (λ (member : ℕ). cells_held (facts_of w.ledger member) + cells_of_votes t.choices ≤ w.cluster.cells) members
  pub commit : cells_held (facts_of w.ledger a) + cells_of_votes t.choices + cells_needed (Fact.Heard t.tx (Outcome.Commit t.choices)) ≤ w.cluster.cells

-- then no delivery is dropped
abbrev pub CellsSuffice : Type 0
CellsSuffice =
    (w : World) (a : ℕ) (t : Undecided) (members : List ℕ) (first second : Happened)
    → IsReady w a t members → HaveCells w a t members → AreDelivered w a t members first second
    → AreUndropped (first.lines ++ second.lines)

-- and the transaction commits
abbrev pub RoomyRoundTripCommits : Type 0
RoomyRoundTripCommits =
    (w : World) (a : ℕ) (t : Undecided) (members : List ℕ) (first second : Happened)
    → IsReady w a t members → HaveCells w a t members → AreDelivered w a t members first second
    → EndsWithCommit a t.tx first.lines second.lines
