-- How ledgers grow.
use Rattle.std.specs.Prelude.{List, None, ◌++◌, ◌≡◌}
use Rattle.mdcc_def_ledger.specs.Ledger.{Entry}
use Rattle.mdcc_def_simulation.specs.Runs.{Run, run_of}
use Rattle.mdcc_def_simulation.specs.State.{World}
use Rattle.mdcc_def_language.specs.declared.events.Event.{Event}
use Rattle.mdcc_def_language.specs.declared.lines.Line.{Line}

-- the second world has the first one's cluster and its ledger, with later entries in front
pub record Grows (w w' : World) : Type 0 where
  pub same : w'.cluster ≡ w.cluster
  pub later : List Entry
  pub parts : w'.ledger ≡ later ++ w.ledger

-- a run takes nothing out of the ledger, and its cluster stays
abbrev pub RunsGrow : Type 0
RunsGrow = (w : World) (events : List Event) → Grows w (run_of w events).world

-- lines that were told before stand before those of a run
abbrev pub told_before : List Line → Run → Run
told_before lines run = record run { lines = lines ++ run.lines }

-- a run of more events goes on where the run of the first ones ended, unless that was refused
abbrev pub RunsGoOn : Type 0
RunsGoOn =
    (w : World) (first rest : List Event) → (run_of w first).fault ≡ None
    → run_of w (first ++ rest) ≡ told_before (run_of w first).lines (run_of (run_of w first).world rest)

-- where no event of a run is refused, none of the first ones is
abbrev pub FirstAreTaken : Type 0
FirstAreTaken = (w : World) (first rest : List Event) → (run_of w (first ++ rest)).fault ≡ None → (run_of w first).fault ≡ None
