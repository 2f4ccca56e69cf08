-- What is left of the facts of a centre, and the lists of facts that it represents.
use Rattle.std.specs.List.{list_all, list_any}
use Rattle.std.specs.Prelude.{◌≡◌, ◌≤◌, ◌+◌, ◌-◌, ◌*◌, ◌∷◌, ◌&&◌, Bool, List, [], false, if◌then◌else◌, length, nat_le, not, true, ℕ}
use Rattle.mdcc_def_messages.specs.declared.facts.Fact.{Fact}
use Rattle.mdcc_def_protocol.specs.Cells.{cells_held}
use Rattle.mdcc_base.specs.declared.identifiers.TxId.{TxId}
use Rattle.mdcc_def_messages.specs.Lengths.{fact_length}
use Rattle.mdcc_def_protocol.specs.Facts.{has_floor, is_finished, is_heard}
use Rattle.mdcc_facts.specs.Adding.{is_promised_before, offers_unmarked}
use Rattle.mdcc_cells_chains.specs.Unresolved.{Numbered}
use Rattle.mdcc_cells_facts.specs.Stored.{cells_taken}
use Rattle.mdcc_theorem_fact_folds.specs.Outcomes.{are_heard_once}
use Rattle.mdcc_cells_floors.specs.Epochs.{HoldsEpochs, floors_set}
use Rattle.mdcc_given_back.specs.Counted.{are_risen, top_floors, without_floors}
use Rattle.mdcc_given_back.specs.Rest.{IsRest, is_bared, is_dropped}
use Rattle.mdcc_index.specs.Stores.{Represents, Store, cells_in_all}
use Rattle.mdcc_cells_marked.specs.Marks.{MarkedTxs, marks_of}
use Rattle.mdcc_def_protocol.specs.News.{is_crowding}
use Rattle.mdcc_facts_kept.specs.Adding.{MayBeSwept}
use Rattle.mdcc_facts_kept.specs.declared.forgotten.Left.{Left}

-- ---- what is stored

-- the facts that are left but floors, the marks of their votes, the floors, and how many cells there are
pub record KeptRest : Type 0 where
  pub inner : Store
  pub marked : MarkedTxs
  pub floors : Numbered
  pub cells : ℕ

-- the cells of the facts that are left, and one for each floor
abbrev pub cells_occupied : KeptRest → ℕ
cells_occupied store = cells_taken store.inner.cells.encodings + floors_set store.floors.entries

-- ---- what is done with a fact

abbrev pub left_by : List Fact → Fact → Left
left_by all fact = if is_dropped all fact then Left.Dropped else (if is_bared all fact then Left.Bared else Left.Whole)

-- ---- what a store says of facts

-- no promise begins at the version and the ballot of an older one
abbrev pub are_promised_once : List Fact → Bool
are_promised_once [] = true
are_promised_once (fact ∷ facts) = not (is_promised_before facts fact) && are_promised_once facts

-- no fact is longer than a frame of a log
abbrev pub are_short : List Fact → Bool
are_short facts = list_all (λ fact. nat_le (fact_length fact) 2097152) facts

-- what holds of all facts, since each met the condition of an addition
pub record AreSwept (facts : List Fact) : Type 0 where
  pub heard : are_heard_once facts ≡ true
  pub marked : list_any offers_unmarked facts ≡ false
  pub risen : are_risen facts ≡ true
  pub told : (tx : TxId) → is_finished facts tx ≡ true → is_heard facts tx ≡ true

-- they are what is left of these facts, the newest first
pub record IsKept (store : KeptRest) (facts : List Fact) : Type 0 where
  pub rest : List Fact
  pub is_rest : IsRest rest facts
  pub whole : has_floor facts ≡ false → rest ≡ facts
  pub inner : Represents store.inner (without_floors rest)
  pub marked : store.marked.entries ≡ marks_of (without_floors rest)
  pub floors : HoldsEpochs store.floors.entries facts
  pub tops : floors_set store.floors.entries ≡ top_floors facts
  pub added : AreSwept facts
  pub promised : are_promised_once (without_floors rest) ≡ true
  pub short : are_short (without_floors rest) ≡ true
  pub fits : cells_held facts ≤ store.cells

-- the cells that are spare
abbrev pub cells_spare : ℕ → List Fact → ℕ
cells_spare cells facts = cells - cells_held facts

-- they are those of some facts, the pool has all cells, and there is room for the marks of as many
pub record IsKeptStore (store : KeptRest) : Type 0 where
  pub facts : List Fact
  pub kept : IsKept store facts
  pub size : cells_in_all store.inner ≡ store.cells
  pub marks : length store.marked.entries + 6 * store.inner.cells.spare ≤ store.marked.room
  pub all_marks : 6 * store.cells ≤ store.marked.room

-- it is what is left of some facts, to which this one may be added
pub record CanEnter (store : KeptRest) (fact : Fact) : Type 0 where
  pub facts : List Fact
  pub kept : IsKept store facts
  pub may : MayBeSwept facts fact
  pub few : is_crowding facts fact ≡ false
