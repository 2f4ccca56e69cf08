-- A store of facts in cells, and the lists of facts that it represents.
use Rattle.std.specs.Prelude.{List, Option, None, Some, Bool, false, not, ◌≡◌, ◌+◌, ◌*◌, ◌≤◌, ℕ, length}
use Rattle.mdcc_base.specs.declared.identifiers.TxId.{TxId}
use Rattle.mdcc_base.specs.declared.key.Key.{Key}
use Rattle.mdcc_def_messages.specs.declared.facts.Fact.{Fact}
use Rattle.mdcc_def_protocol.specs.Facts.{epoch_of, executed_of}
use Rattle.mdcc_cells_chains.specs.Unresolved.{Numbered}
use Rattle.mdcc_facts.specs.Adding.{MayBeAdded}
use Rattle.mdcc_cells_facts.specs.Holding.{HoldsEncodings}
use Rattle.mdcc_cells_facts.specs.Stored.{Stored, cells_taken}
use Rattle.mdcc_theorem_fact_folds.specs.Added.{AreAdded}
use Rattle.mdcc_cells_tables.specs.HeldVersions.{HoldsVersions, Versions}
use Rattle.mdcc_cells_tables.specs.UnresolvedNumbers.{ListsUnresolved}
use Rattle.mdcc_cells_indices.specs.Active.{is_active}
use Rattle.mdcc_cells_indices.specs.Entries.{Entries, entries_kept, entries_of_facts}
use Rattle.mdcc_cells_indices.specs.Heard.{AreHeard, HeardTxs, ended_told}
use Rattle.mdcc_cells_indices.specs.Promises.{ArePromised, Kept}
use Rattle.mdcc_cells_indices.specs.Tallies.{HoldsTallies, Tallied}

-- the facts in their cells, and what is found without reading them
pub record Store : Type 0 where
  pub cells : Stored
  pub outcomes : HeardTxs
  pub promises : Kept
  pub instances : Entries
  pub active : Entries
  pub tallies : Tallied
  pub held : Versions
  pub unresolved : Numbered
  pub epoch : ℕ

abbrev pub store_of : Stored → HeardTxs → Kept → Entries → Entries → Tallied → Versions → Numbered → ℕ → Store
store_of cells outcomes promises instances active tallies held unresolved epoch =
    record { cells = cells; outcomes = outcomes; promises = promises; instances = instances; active = active; tallies = tallies; held = held; unresolved = unresolved; epoch = epoch }

-- the store has these facts, the newest first
pub record Represents (store : Store) (facts : List Fact) : Type 0 where
  pub cells : HoldsEncodings store.cells.encodings facts
  pub outcomes : AreHeard store.outcomes facts
  pub promises : ArePromised store.promises facts
  pub instances : store.instances.entries ≡ entries_of_facts facts
  pub active : store.active.entries ≡ entries_kept is_active facts
  pub tallies : HoldsTallies store.tallies facts
  pub held : HoldsVersions store.held facts
  pub unresolved : ListsUnresolved store.unresolved.entries facts
  pub epoch : store.epoch ≡ epoch_of facts
  pub added : AreAdded facts
  pub few : (key : Key) → length (executed_of facts key) ≤ 64

-- the same, but that any number of deltas may be executed
pub record HasFactsInCells (store : Store) (facts : List Fact) : Type 0 where
  pub cells : HoldsEncodings store.cells.encodings facts
  pub outcomes : AreHeard store.outcomes facts
  pub promises : ArePromised store.promises facts
  pub instances : store.instances.entries ≡ entries_of_facts facts
  pub active : store.active.entries ≡ entries_kept is_active facts
  pub tallies : HoldsTallies store.tallies facts
  pub held : HoldsVersions store.held facts
  pub unresolved : ListsUnresolved store.unresolved.entries facts
  pub epoch : store.epoch ≡ epoch_of facts
  pub added : AreAdded facts

-- for each spare cell there is room for what a fact may bring
pub record HasStoreRoom (store : Store) : Type 0 where
  pub outcomes : length store.outcomes.txs.keys + store.cells.spare ≤ store.outcomes.txs.room
  pub promises : length store.promises.keys.keys + store.cells.spare ≤ store.promises.keys.room
  pub instances : length store.instances.entries + 2 * store.cells.spare ≤ store.instances.room
  pub active : length store.active.entries + 2 * store.cells.spare ≤ store.active.room
  pub tallies : length store.tallies.instances.keys + store.cells.spare ≤ store.tallies.instances.room
  pub held : length store.held.keys.keys + 2 * store.cells.spare ≤ store.held.keys.room
  pub unresolved : length store.unresolved.entries + 2 * store.cells.spare ≤ store.unresolved.room

-- the cells, spare ones and others
abbrev pub cells_in_all : Store → ℕ
cells_in_all store = store.cells.spare + cells_taken store.cells.encodings

-- for each cell there is room for what a fact may bring
pub record HasSize (store : Store) : Type 0 where
  pub outcomes : cells_in_all store ≤ store.outcomes.txs.room
  pub promises : cells_in_all store ≤ store.promises.keys.room
  pub instances : 2 * cells_in_all store ≤ store.instances.room
  pub active : 2 * cells_in_all store ≤ store.active.room
  pub tallies : cells_in_all store ≤ store.tallies.instances.room
  pub held : 2 * cells_in_all store ≤ store.held.keys.room
  pub unresolved : 2 * cells_in_all store ≤ store.unresolved.room

-- it has some facts, and room for more
pub record IsStore (store : Store) : Type 0 where
  pub facts : List Fact
  pub has : HasFactsInCells store facts
  pub room : HasStoreRoom store
  pub size : HasSize store

-- it has some facts, to which this one may be added
pub record CanTake (store : Store) (fact : Fact) : Type 0 where
  pub facts : List Fact
  pub has : HasFactsInCells store facts
  pub may : MayBeAdded facts fact

-- it represents some facts
pub record IsRepresented (store : Store) : Type 0 where
  pub facts : List Fact
  pub represented : Represents store facts

-- whether a transaction was aborted, by the fact that is found
abbrev pub is_abort_ended : Option Bool → Bool
is_abort_ended None = false
is_abort_ended (Some commit) = not commit

abbrev pub is_void_told : Store → TxId → Bool
is_void_told store tx = is_abort_ended (ended_told store.cells.encodings store.outcomes tx)
