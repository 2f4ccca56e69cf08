-- Where the lines of a report come from.
use Rattle.std.specs.List.{AllByRecursion}
use Rattle.std.specs.Prelude.{Contains, List, [], ℕ, ⊤, ◌++◌, ◌∷◌, ◌≡◌}
use Rattle.mdcc_base.specs.Sizes.{Sizes}
use Rattle.mdcc_base.specs.declared.identifiers.TxId.{TxId}
use Rattle.mdcc_option.specs.declared.choices.Outcome.{Outcome}
use Rattle.mdcc_option.specs.declared.items.Known.{Known}
use Rattle.mdcc_def_ledger.specs.Ledger.{Added, Entry, facts_of, new_outcomes}
use Rattle.mdcc_def_protocol.specs.Marks.{is_commit}
use Rattle.mdcc_def_protocol.specs.Visible
use Rattle.mdcc_def_simulation.specs.State.{World}
use Rattle.mdcc_def_simulation.specs.Clients.{known_of_reading}
use Rattle.mdcc_def_simulation.specs.Runs.{run_of}
use Rattle.mdcc_def_language.specs.declared.events.Event.{Event}
use Rattle.mdcc_def_messages.specs.declared.facts.Fact.{Fact}
use Rattle.mdcc_def_language.specs.declared.lines.Line.{Line}

-- the outcome came to be at an entry of the ledger
pub record Came (quorums : Sizes) (ledger : List Entry) (tx : TxId) (outcome : Outcome) : Type 0 where
  pub later : List Entry
  pub entry : Entry
  pub before : List Entry
  pub parts : ledger ≡ later ++ entry ∷ before
  pub is_new : Contains (new_outcomes quorums entry before) (tx, outcome)

-- a centre added the fact that it heard the outcome
pub record WasHeard (ledger : List Entry) (a : ℕ) (tx : TxId) (outcome : Outcome) : Type 0 where
  pub later : List Entry
  pub before : List Entry
  pub parts : ledger ≡ later ++ Added a (Fact.Heard tx outcome) ∷ before

-- a centre showed this of a key, by the facts that it had when the ledger was this far
pub record WasRead (ledger : List Entry) (a : ℕ) (known : Known) : Type 0 where
  pub later : List Entry
  pub before : List Entry
  pub parts : ledger ≡ later ++ before
  pub shown : known ≡ known_of_reading known.key (Visible.read (facts_of before a) known.key)

-- a line on an outcome is told where the outcome came or was heard, and a read where it was made; of other lines nothing is said
abbrev pub HasOrigin : Sizes → List Entry → Line → Type 0
HasOrigin quorums ledger (Line.Chosen tx is_committed) = (outcome : Outcome) × (is_commit outcome ≡ is_committed) × Came quorums ledger tx outcome
HasOrigin quorums ledger (Line.Heard a tx is_committed) = (outcome : Outcome) × (is_commit outcome ≡ is_committed) × WasHeard ledger a tx outcome
HasOrigin quorums ledger (Line.Read number a known) = WasRead ledger a known
HasOrigin quorums ledger line = ⊤

-- ---- in turn

-- the second ledger has the first one's entries, with later ones in front
abbrev pub IsLater : List Entry → List Entry → Type 0
IsLater first last = (later : List Entry) × (last ≡ later ++ first)

-- a line is told when the ledger is just this: an outcome came at its newest entry, or that is the fact that the centre heard it; and a read
-- shows what the centre has by then
abbrev pub BeginsAt : Sizes → List Entry → Line → Type 0
BeginsAt quorums now (Line.Chosen tx is_committed) =
    (outcome : Outcome) × (is_commit outcome ≡ is_committed)
    × (entry : Entry) × (before : List Entry) × (now ≡ entry ∷ before) × Contains (new_outcomes quorums entry before) (tx, outcome)
BeginsAt quorums now (Line.Heard a tx is_committed) =
    (outcome : Outcome) × (is_commit outcome ≡ is_committed) × (before : List Entry) × (now ≡ Added a (Fact.Heard tx outcome) ∷ before)
BeginsAt quorums now (Line.Read number a known) = known ≡ known_of_reading known.key (Visible.read (facts_of now a) known.key)
BeginsAt quorums now line = ⊤

-- the lines are told in turn while the ledger grows from the first to the last of these
abbrev pub AreInTurn : Sizes → List Entry → List Entry → List Line → Type 0
AreInTurn quorums first last [] = IsLater first last
AreInTurn quorums first last (line ∷ lines) = (now : List Entry) × IsLater first now × BeginsAt quorums now line × AreInTurn quorums now last lines

-- ---- runs

-- each line of a run has its origin in the run's ledger, in whatever world it begins
abbrev pub LinesHaveOrigins : Type 0
LinesHaveOrigins =
    (w : World) (events : List Event)
    → AllByRecursion (HasOrigin w.cluster.quorums (run_of w events).world.ledger) (run_of w events).lines

-- and it is told there, also within an event of several deliveries
abbrev pub LinesInTurn : Type 0
LinesInTurn =
    (w : World) (events : List Event)
    → AreInTurn w.cluster.quorums w.ledger (run_of w events).world.ledger (run_of w events).lines
