-- In which order outcomes came, and in which they are printed.
use Rattle.std.specs.Prelude.{Bool, List, [], flat_map, map, ◌++◌, ◌∷◌, ◌≡◌}
use Rattle.mdcc_base.specs.Sizes.{Sizes}
use Rattle.mdcc_base.specs.declared.identifiers.TxId.{TxId}
use Rattle.mdcc_def_ledger.specs.Ledger.{Entry, new_outcomes}
use Rattle.mdcc_def_protocol.specs.Marks.{is_commit}
use Rattle.mdcc_def_simulation.specs.State.{World}
use Rattle.mdcc_def_simulation.specs.Runs.{run_of}
use Rattle.mdcc_def_language.specs.declared.events.Event.{Event}
use Rattle.mdcc_def_language.specs.declared.lines.Line.{Line}

-- a transaction, and whether it committed
abbrev pub Decided : Type 0
Decided = TxId × Bool

-- the transactions that got an outcome, in the order in which they did
abbrev pub decided_in : Sizes → List Entry → List Decided
decided_in quorums [] = []
decided_in quorums (entry ∷ before) = decided_in quorums before ++ map (λ e. (e.0, is_commit e.1)) (new_outcomes quorums entry before)

-- those that the `chosen` lines name, from top to bottom
abbrev pub decided_by_line : Line → List Decided
decided_by_line (Line.Chosen tx is_committed) = (tx, is_committed) ∷ []
decided_by_line line = []

abbrev pub decided_in_lines : List Line → List Decided
decided_in_lines lines = flat_map decided_by_line lines

-- a run prints each outcome that comes in it once, and in the order in which they come
abbrev pub OutcomesInOrder : Type 0
OutcomesInOrder =
    (w : World) (events : List Event)
    → decided_in (run_of w events).world.cluster.quorums (run_of w events).world.ledger
    ≡ decided_in w.cluster.quorums w.ledger ++ decided_in_lines (run_of w events).lines
