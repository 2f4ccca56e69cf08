-- A store represents one more fact once each of its parts has it.
use Rattle.std.proofs.Common.{◌≡◌, ◌++◌, ◌∷◌, ◌+◌, ◌≤◌, ℕ, false, List, [], is_some, length, sym, ap, ◌∙◌, arith}
use Rattle.mdcc_base.specs.declared.key.Key.{Key}
use Rattle.mdcc_def_messages.specs.Lengths.{cells_needed}
use Rattle.mdcc_def_messages.specs.Spelling.{fact_bytes}
use Rattle.mdcc_def_messages.specs.declared.facts.Fact.{Fact}
use Rattle.mdcc_def_protocol.specs.Facts.{executed_of}
use Rattle.mdcc_def_protocol.specs.News.{is_crowding}
use Rattle.mdcc_cells_facts.specs.Stored.{cells_taken}
use Rattle.mdcc_cells_facts.proofs.Ticketed.{cells-alike, taken-more}
use Rattle.mdcc_facts.specs.Adding.{MayBeAdded}
use Rattle.mdcc_facts.proofs.Crowding.{few_added}
use Rattle.mdcc_theorem_fact_folds.specs.Promises.{next_epoch}
use Rattle.mdcc_theorem_fact_folds.proofs.Walked.{epoch-updates}
use Rattle.mdcc_theorem_fact_folds.proofs.Kept.{stay-added}
use Rattle.mdcc_cells_tables.specs.HeldVersions.{HoldsVersions}
use Rattle.mdcc_cells_tables.specs.UnresolvedNumbers.{ListsUnresolved, TellsHeard}
use Rattle.mdcc_cells_indices.specs.Active.{is_active}
use Rattle.mdcc_cells_indices.specs.Entries.{entries_in, entries_kept, entries_of_facts}
use Rattle.mdcc_cells_indices.specs.Heard.{AreHeard, number_found}
use Rattle.mdcc_cells_indices.specs.Promises.{ArePromised}
use Rattle.mdcc_cells_indices.specs.Tallies.{HoldsTallies}
use Rattle.mdcc_cells_indices.proofs.Endings.{tells-heard}
use Rattle.mdcc_cells_indices.proofs.Entered.{held-length}
use Rattle.mdcc_index.specs.Stores.{HasFactsInCells, Represents, Store, cells_in_all}

-- each part of a store has one more fact, of this number
pub record AddsFact (old new : Store) (fact : Fact) (number : ℕ) : Type 0 where
  pub number_is : number ≡ length old.cells.encodings
  pub cells : new.cells.encodings ≡ old.cells.encodings ++ fact_bytes fact ∷ []
  pub outcomes : (facts : List Fact) → AreHeard old.outcomes facts → number ≡ length facts → AreHeard new.outcomes (fact ∷ facts)
  pub promises : (facts : List Fact) → ArePromised old.promises facts → ArePromised new.promises (fact ∷ facts)
  pub instances : new.instances.entries ≡ entries_in fact number ++ old.instances.entries
  pub active : (facts : List Fact) → old.active.entries ≡ entries_kept is_active facts → number ≡ length facts → new.active.entries ≡ entries_kept is_active (fact ∷ facts)
  pub tallies : (facts : List Fact) → HoldsTallies old.tallies facts → MayBeAdded facts fact → HoldsTallies new.tallies (fact ∷ facts)
  pub held : (facts : List Fact) → HoldsVersions old.held facts → number ≡ length facts → HoldsVersions new.held (fact ∷ facts)
  pub unresolved : (facts : List Fact) → ListsUnresolved old.unresolved.entries facts → TellsHeard (λ tx. is_some (number_found old.outcomes tx)) facts → number ≡ length facts
      → ListsUnresolved new.unresolved.entries (fact ∷ facts)
  pub epoch : new.epoch ≡ next_epoch fact old.epoch

-- the cells of a fact were spare ones
pub cells-same : (old new : Store) (fact : Fact) → new.cells.encodings ≡ old.cells.encodings ++ fact_bytes fact ∷ [] → new.cells.spare + cells_needed fact ≡ old.cells.spare → cells_in_all new ≡ cells_in_all old
cells-same old new fact encodings used = omega (arith, used, ap cells_taken encodings, taken-more old.cells.encodings (fact_bytes fact), cells-alike fact)

pub has-more : (old new : Store) (facts : List Fact) (fact : Fact) (number : ℕ) → AddsFact old new fact number → MayBeAdded facts fact → HasFactsInCells old facts → HasFactsInCells new (fact ∷ facts)
has-more old new facts fact number adds may kept =
    let long : number ≡ length facts = adds.number_is ∙ held-length old.cells.encodings facts kept.cells in
    record {
      cells = record {
        encodings_are = adds.cells ∙ ap (λ es. es ++ fact_bytes fact ∷ []) kept.cells.encodings_are;
        well_formed = (may.well_formed, kept.cells.well_formed);
      };
      outcomes = adds.outcomes facts kept.outcomes long;
      promises = adds.promises facts kept.promises;
      instances = adds.instances ∙ ap (λ es. entries_in fact number ++ es) kept.instances ∙ ap (λ n. entries_in fact n ++ entries_of_facts facts) long;
      active = adds.active facts kept.active long;
      tallies = adds.tallies facts kept.tallies may;
      held = adds.held facts kept.held long;
      unresolved = adds.unresolved facts kept.unresolved (tells-heard old.outcomes facts kept.cells.well_formed kept.outcomes) long;
      epoch = adds.epoch ∙ ap (next_epoch fact) kept.epoch ∙ sym (epoch-updates facts fact);
      added = stay-added facts fact kept.added may;
    }

-- ---- with the limit of deltas

pub facts_in_cells : (store : Store) (facts : List Fact) → Represents store facts → HasFactsInCells store facts
facts_in_cells store facts kept = record {
  cells = kept.cells;
  outcomes = kept.outcomes;
  promises = kept.promises;
  instances = kept.instances;
  active = kept.active;
  tallies = kept.tallies;
  held = kept.held;
  unresolved = kept.unresolved;
  epoch = kept.epoch;
  added = kept.added;
}

pub represents_few : (store : Store) (facts : List Fact) → HasFactsInCells store facts → ((key : Key) → length (executed_of facts key) ≤ 64) → Represents store facts
represents_few store facts has few = record {
  cells = has.cells;
  outcomes = has.outcomes;
  promises = has.promises;
  instances = has.instances;
  active = has.active;
  tallies = has.tallies;
  held = has.held;
  unresolved = has.unresolved;
  epoch = has.epoch;
  added = has.added;
  few = few;
}

pub represents_more : (old new : Store) (facts : List Fact) (fact : Fact) → HasFactsInCells new (fact ∷ facts) → is_crowding facts fact ≡ false → Represents old facts → Represents new (fact ∷ facts)
represents_more old new facts fact has free kept = represents_few new (fact ∷ facts) has (few_added facts fact free kept.few)
