-- When there is no vote on a transaction.
use Rattle.std.proofs.Common.{◌≡◌, Bool, true, false, List, None, is_some, refl, sym, ap, ◌∙◌}
use Rattle.std.specs.Option.{option_and_then}
use Rattle.std.specs.Prelude.{if◌then◌else◌, not}
use Rattle.mdcc_base.specs.declared.identifiers.TxId.{TxId}
use Rattle.mdcc_struct.specs.Maps.{value_of}
use Rattle.mdcc_def_messages.specs.declared.facts.Fact.{Fact}
use Rattle.mdcc_def_protocol.specs.Facts.{is_heard, write_sets_of}
use Rattle.mdcc_def_protocol.specs.Plain.{plain_unresolved_of}
use Rattle.mdcc_theorem_fact_folds.proofs.Unheard.{write_set-unheard}
use Rattle.mdcc_cells_tables.specs.UnresolvedNumbers.{write_set_numbered}
use Rattle.mdcc_cells_indices.specs.Heard.{number_found}
use Rattle.mdcc_cells_indices.proofs.Endings.{tells-heard}
use Rattle.mdcc_index.specs.Stores.{Represents, Store}

pub not-true : (b : Bool) → not b ≡ true → b ≡ false
not-true false h = refl
not-true true h = absurd (cc)

-- a transaction that is neither unresolved nor heard has no choice in any fact
pub no-choice : (store : Store) (facts : List Fact) (tx : TxId) → Represents store facts → value_of store.unresolved.entries tx ≡ None → is_some (number_found store.outcomes tx) ≡ false
    → value_of (write_sets_of facts) tx ≡ None
no-choice store facts tx kept none unheard =
    let heard : is_heard facts tx ≡ false = sym (tells-heard store.outcomes facts kept.cells.well_formed kept.outcomes tx) ∙ unheard in
    let apart : value_of (plain_unresolved_of facts) tx ≡ None = kept.unresolved.write_sets tx ∙ ap (option_and_then (λ number. write_set_numbered facts number tx)) none in
    ap (λ b. if b then None else value_of (write_sets_of facts) tx) (sym heard) ∙ sym (write_set-unheard facts tx) ∙ apart
