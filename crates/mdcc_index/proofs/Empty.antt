-- A store that has just been made.
use Rattle.std.proofs.Common.{◌≡◌, ◌*◌, ℕ, [], length, refl, ap, arith}
use Rattle.mdcc_cells_facts.specs.Stored.{Stored, cells_taken}
use Rattle.mdcc_cells_chains.specs.Unresolved.{Numbered}
use Rattle.mdcc_cells_tables.specs.HeldVersions.{HoldsVersions, Versions, no_versions}
use Rattle.mdcc_cells_tables.specs.UnresolvedNumbers.{ListsUnresolved}
use Rattle.mdcc_cells_indices.specs.Entries.{Entries}
use Rattle.mdcc_cells_indices.specs.Heard.{HeardTxs}
use Rattle.mdcc_cells_indices.specs.Promises.{Kept}
use Rattle.mdcc_cells_indices.specs.Tallies.{HoldsTallies, Tallied}
use Rattle.mdcc_theorem_fact_folds.proofs.Kept.{none-added}
use Rattle.mdcc_index.specs.Stores.{HasSize, HasStoreRoom, Represents, cells_in_all, store_of}

module _ (cells entries : ℕ) (stored : Stored) (outcomes : HeardTxs) (promises : Kept) (instances active : Entries) (tallies : Tallied) (held : Versions) (unresolved : Numbered)
    (cells-are : stored ≡ record { spare = cells; encodings = [] })
    (outcomes-are : outcomes ≡ record { txs = record { room = cells; keys = [] }; numbers = [] })
    (promises-are : promises ≡ record { keys = record { room = cells; keys = [] }; ranges = [] })
    (instances-are : instances ≡ record { room = entries; entries = [] })
    (active-are : active ≡ record { room = entries; entries = [] })
    (tallies-are : tallies ≡ record { instances = record { room = cells; keys = [] }; tallies = [] })
    (held-are : held ≡ no_versions entries)
    (unresolved-are : unresolved ≡ record { room = entries; entries = [] }) where
  pub represents-none : HoldsTallies tallies [] → HoldsVersions held [] → ListsUnresolved unresolved.entries [] → Represents (store_of stored outcomes promises instances active tallies held unresolved 0) []
  represents-none counted versions listed = record {
    cells = record { encodings_are = ap (λ c. c.encodings) cells-are; well_formed = tt };
    outcomes = record { txs_are = ap (λ o. o.txs.keys) outcomes-are; numbers_are = ap (λ o. o.numbers) outcomes-are };
    promises = record { keys_of = ap (λ p. p.keys.keys) promises-are; ranges_of = ap (λ p. p.ranges) promises-are };
    instances = ap (λ i. i.entries) instances-are;
    active = ap (λ i. i.entries) active-are;
    tallies = counted;
    held = versions;
    unresolved = listed;
    epoch = refl;
    added = none-added;
    few = λ key. omega arith;
  }

  pub room-for-all : entries ≡ cells * 2 → HasStoreRoom (store_of stored outcomes promises instances active tallies held unresolved 0)
  room-for-all twice = record {
    outcomes = omega (arith, ap (λ o. length o.txs.keys) outcomes-are, ap (λ o. o.txs.room) outcomes-are, ap (λ c. c.spare) cells-are);
    promises = omega (arith, ap (λ p. length p.keys.keys) promises-are, ap (λ p. p.keys.room) promises-are, ap (λ c. c.spare) cells-are);
    instances = omega (arith, ap (λ i. length i.entries) instances-are, ap (λ i. i.room) instances-are, ap (λ c. c.spare) cells-are, twice);
    active = omega (arith, ap (λ i. length i.entries) active-are, ap (λ i. i.room) active-are, ap (λ c. c.spare) cells-are, twice);
    tallies = omega (arith, ap (λ t. length t.instances.keys) tallies-are, ap (λ t. t.instances.room) tallies-are, ap (λ c. c.spare) cells-are);
    held = omega (arith, ap (λ h. length h.keys.keys) held-are, ap (λ h. h.keys.room) held-are, ap (λ c. c.spare) cells-are, twice);
    unresolved = omega (arith, ap (λ u. length u.entries) unresolved-are, ap (λ u. u.room) unresolved-are, ap (λ c. c.spare) cells-are, twice);
  }

  pub cells-all : cells_in_all (store_of stored outcomes promises instances active tallies held unresolved 0) ≡ cells
  cells-all = omega (arith, ap (λ c. c.spare) cells-are, ap (λ c. cells_taken c.encodings) cells-are)

  pub size-for-all : entries ≡ cells * 2 → HasSize (store_of stored outcomes promises instances active tallies held unresolved 0)
  size-for-all twice = record {
    outcomes = omega (arith, cells-all, ap (λ o. o.txs.room) outcomes-are);
    promises = omega (arith, cells-all, ap (λ p. p.keys.room) promises-are);
    instances = omega (arith, cells-all, ap (λ i. i.room) instances-are, twice);
    active = omega (arith, cells-all, ap (λ i. i.room) active-are, twice);
    tallies = omega (arith, cells-all, ap (λ t. t.instances.room) tallies-are);
    held = omega (arith, cells-all, ap (λ h. h.keys.room) held-are, twice);
    unresolved = omega (arith, cells-all, ap (λ u. u.room) unresolved-are, twice);
  }
