-- A store whose parts have been emptied.
use Rattle.std.proofs.Common.{◌≡◌, [], length, ap, arith}
use Rattle.mdcc_cells_tables.specs.HeldVersions.{HoldsVersions}
use Rattle.mdcc_cells_tables.specs.UnresolvedNumbers.{ListsUnresolved}
use Rattle.mdcc_cells_indices.specs.Tallies.{HoldsTallies}
use Rattle.mdcc_cells_facts.specs.Stored.{cells_taken}
use Rattle.mdcc_theorem_fact_folds.proofs.Kept.{none-added}
use Rattle.mdcc_index.specs.Stores.{HasSize, HasStoreRoom, Represents, Store, cells_in_all}

-- each part of a store is empty, and has the room of that part of an older one
pub record IsCleared (old new : Store) : Type 0 where
  pub encodings : new.cells.encodings ≡ []
  pub spare : new.cells.spare ≡ cells_in_all old
  pub txs : new.outcomes.txs.keys ≡ []
  pub numbers : new.outcomes.numbers ≡ []
  pub outcome_room : new.outcomes.txs.room ≡ old.outcomes.txs.room
  pub keys : new.promises.keys.keys ≡ []
  pub ranges : new.promises.ranges ≡ []
  pub promise_room : new.promises.keys.room ≡ old.promises.keys.room
  pub instances : new.instances.entries ≡ []
  pub instance_room : new.instances.room ≡ old.instances.room
  pub active : new.active.entries ≡ []
  pub active_room : new.active.room ≡ old.active.room
  pub counted : HoldsTallies new.tallies []
  pub tallies : new.tallies.instances.keys ≡ []
  pub tally_room : new.tallies.instances.room ≡ old.tallies.instances.room
  pub versions : HoldsVersions new.held []
  pub held : new.held.keys.keys ≡ []
  pub held_room : new.held.keys.room ≡ old.held.keys.room
  pub listed : ListsUnresolved new.unresolved.entries []
  pub unresolved : new.unresolved.entries ≡ []
  pub unresolved_room : new.unresolved.room ≡ old.unresolved.room
  pub epoch : new.epoch ≡ 0

module _ (old new : Store) (is : IsCleared old new) where
  pub cleared-represents : Represents new []
  cleared-represents = record {
    cells = record { encodings_are = is.encodings; well_formed = tt };
    outcomes = record { txs_are = is.txs; numbers_are = is.numbers };
    promises = record { keys_of = is.keys; ranges_of = is.ranges };
    instances = is.instances;
    active = is.active;
    tallies = is.counted;
    held = is.versions;
    unresolved = is.listed;
    epoch = is.epoch;
    added = none-added;
    few = λ key. omega arith;
  }

  pub cells-kept : cells_in_all new ≡ cells_in_all old
  cells-kept = omega (arith, is.spare, ap cells_taken is.encodings)

  pub cleared-size : HasSize old → HasSize new
  cleared-size size = record {
    outcomes = omega (arith, size.outcomes, cells-kept, is.outcome_room);
    promises = omega (arith, size.promises, cells-kept, is.promise_room);
    instances = omega (arith, size.instances, cells-kept, is.instance_room);
    active = omega (arith, size.active, cells-kept, is.active_room);
    tallies = omega (arith, size.tallies, cells-kept, is.tally_room);
    held = omega (arith, size.held, cells-kept, is.held_room);
    unresolved = omega (arith, size.unresolved, cells-kept, is.unresolved_room);
  }

  pub cleared-room : HasSize old → HasStoreRoom new
  cleared-room size = record {
    outcomes = omega (arith, size.outcomes, is.spare, ap length is.txs, is.outcome_room);
    promises = omega (arith, size.promises, is.spare, ap length is.keys, is.promise_room);
    instances = omega (arith, size.instances, is.spare, ap length is.instances, is.instance_room);
    active = omega (arith, size.active, is.spare, ap length is.active, is.active_room);
    tallies = omega (arith, size.tallies, is.spare, ap length is.tallies, is.tally_room);
    held = omega (arith, size.held, is.spare, ap length is.held, is.held_room);
    unresolved = omega (arith, size.unresolved, is.spare, ap length is.unresolved, is.unresolved_room);
  }
