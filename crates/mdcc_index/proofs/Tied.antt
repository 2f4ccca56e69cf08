-- The numbers in a store are those of facts that it has.
use Rattle.std.proofs.Common.{List, [], ◌∷◌, length, sym, arith, subst}
use Rattle.mdcc_def_messages.specs.declared.facts.Fact.{Fact}
use Rattle.mdcc_cells_tables.specs.HeldVersions.{AreGivenBelow}
use Rattle.mdcc_cells_tables.specs.UnresolvedNumbers as unresolved
use Rattle.mdcc_cells_indices.specs.Active.{is_active}
use Rattle.mdcc_cells_indices.specs.Entries.{AreBelow, is_any}
use Rattle.mdcc_cells_indices.specs.Heard.{AreNumbersBelow, heard_numbers}
use Rattle.mdcc_cells_indices.proofs.Endings.{below-by}
use Rattle.mdcc_cells_indices.proofs.Entered.{entries-below, held-length}
use Rattle.mdcc_index.specs.Stores.{HasFactsInCells, Store}

numbers-below : (facts : List Fact) → AreNumbersBelow (length facts) (heard_numbers facts)
numbers-below [] i within = absurd (omega arith)
numbers-below (fact ∷ facts) i within =
    let below = below-by fact (heard_numbers facts) (length facts) (numbers-below facts) i within in omega (arith, below)

module _ (store : Store) (facts : List Fact) (kept : HasFactsInCells store facts) where
  pub outcomes-below : AreNumbersBelow (length store.cells.encodings) store.outcomes.numbers
  outcomes-below =
      subst (λ bound. AreNumbersBelow bound store.outcomes.numbers) (sym (held-length store.cells.encodings facts kept.cells))
      (subst (AreNumbersBelow (length facts)) (sym kept.outcomes.numbers_are) (numbers-below facts))

  pub instances-below : AreBelow (length store.cells.encodings) store.instances.entries
  instances-below =
      subst (λ bound. AreBelow bound store.instances.entries) (sym (held-length store.cells.encodings facts kept.cells))
      (subst (AreBelow (length facts)) (sym kept.instances) (entries-below is_any facts))

  pub active-below : AreBelow (length store.cells.encodings) store.active.entries
  active-below =
      subst (λ bound. AreBelow bound store.active.entries) (sym (held-length store.cells.encodings facts kept.cells))
      (subst (AreBelow (length facts)) (sym kept.active) (entries-below is_active facts))

  pub given-below : AreGivenBelow (length store.cells.encodings) store.held
  given-below key some = omega (arith, (kept.held key).number some, held-length store.cells.encodings facts kept.cells)

  pub unresolved-below : unresolved.AreBelowNumber (length store.cells.encodings) store.unresolved.entries
  unresolved-below =
      subst (λ bound. unresolved.AreBelowNumber bound store.unresolved.entries) (sym (held-length store.cells.encodings facts kept.cells)) kept.unresolved.numbers
