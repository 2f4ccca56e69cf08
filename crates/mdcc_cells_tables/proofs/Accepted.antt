-- The transactions of accepted marks, one mark at a time.
use Rattle.std.proofs.Common.{◌≡◌, ℕ, ◌+◌, ◌<◌, ◌≤◌, ◌∷◌, Bool, Option, Some, None, [], drop, length, refl, ap, arith, length-append}
use Rattle.std.specs.Prelude.{filter_map, slice_get}
use Rattle.mdcc_base.specs.declared.identifiers.Ballot.{Ballot}
use Rattle.mdcc_base.specs.declared.identifiers.TxId.{TxId}
use Rattle.mdcc_base.specs.declared.key.Key.{Key}
use Rattle.mdcc_option.specs.declared.choices.Choice.{Choice}
use Rattle.mdcc_option.specs.declared.choices.Mark.{Mark}
use Rattle.mdcc_def_protocol.specs.Facts.{write_set_of_mark, write_sets_from}
use Rattle.mdcc_def_protocol.specs.Marks.{choice_in}
use Rattle.mdcc_def_messages.specs.declared.facts.Fact.{Fact}
use Rattle.mdcc_struct.specs.Maps.{TxMap, txs_of}
use Rattle.mdcc_struct.specs.declared.options.Options.{Options}
use Rattle.mdcc_struct.proofs.Walks.{drop-get}
use Rattle.mdcc_cells_tables.specs.UnresolvedNumbers.{with_all_unheard, with_unheard_number}
use Rattle.mdcc_cells_tables.proofs.UnresolvedMore.{length-with_all, length-with_unheard}

no_choice : (mark : Mark) → ((choice : Choice) → mark ≡ Mark.Accept choice → ⊥) → choice_in mark ≡ None
no_choice (Mark.Accept choice) h = absurd (h choice refl)
no_choice Mark.Reject h = refl

module _ (heard : TxId → Bool) (number : ℕ) (options : Options) (i : ℕ) (tx : TxId) (mark : Mark) (at : slice_get options i ≡ Some (tx, mark)) where
  abbrev left : ℕ → ℕ
  left i = length (filter_map write_set_of_mark (drop i options))

  pub accepted-goes : (m : TxMap ℕ) (choice : Choice) → mark ≡ Mark.Accept choice
      → with_all_unheard heard number m (txs_of (filter_map write_set_of_mark (drop i options)))
      ≡ with_all_unheard heard number (with_unheard_number heard number m tx) (txs_of (filter_map write_set_of_mark (drop (i + 1) options)))
  accepted-goes m choice is = rw (drop-get options i (tx, mark) at, is) refl

  pub rejected-goes : (m : TxMap ℕ) → ((choice : Choice) → mark ≡ Mark.Accept choice → ⊥)
      → with_all_unheard heard number m (txs_of (filter_map write_set_of_mark (drop i options))) ≡ with_all_unheard heard number m (txs_of (filter_map write_set_of_mark (drop (i + 1) options)))
  rejected-goes m h = rw (drop-get options i (tx, mark) at, no_choice mark h) refl

  pub accepted-left : (choice : Choice) → mark ≡ Mark.Accept choice → left i ≡ left (i + 1) + 1
  accepted-left choice is = rw (drop-get options i (tx, mark) at, is) (omega arith)

  pub rejected-left : ((choice : Choice) → mark ≡ Mark.Accept choice → ⊥) → left i ≡ left (i + 1)
  rejected-left h = rw (drop-get options i (tx, mark) at, no_choice mark h) refl

  pub accepted-room : (m more : TxMap ℕ) (room : ℕ) (choice : Choice) → mark ≡ Mark.Accept choice → length m + left i ≤ room → more ≡ with_unheard_number heard number m tx → length more + left (i + 1) ≤ room
  accepted-room m more room choice is few next = omega (arith, accepted-left choice is, length-with_unheard heard number m tx, ap length next)

  pub rejected-room : (m : TxMap ℕ) (room : ℕ) → ((choice : Choice) → mark ≡ Mark.Accept choice → ⊥) → length m + left i ≤ room → length m + left (i + 1) ≤ room
  rejected-room m room h few = omega (arith, rejected-left h)

-- there is room for the offered one beside them
pub offered-room : (heard : TxId → Bool) (number : ℕ) (m more : TxMap ℕ) (room : ℕ) (fact : Fact) (key : Key) (version : ℕ) (ballot : Ballot) (options : Options) (offered : Option Choice) (choice : Choice)
    → fact ≡ Fact.Voted key version ballot options offered → offered ≡ Some choice → more ≡ with_all_unheard heard number m (txs_of (filter_map write_set_of_mark options))
    → length m + length (write_sets_from fact) ≤ room → length more < room
offered-room heard number m more room fact key version ballot options offered choice is some next few =
    let all : length (write_sets_from fact) ≡ length (filter_map write_set_of_mark options) + 1 =
    rw (is, some) (length-append (filter_map write_set_of_mark options) ((choice.tx, choice.write_set) ∷ [])) in
    omega (arith, all, ap length next, length-with_all heard number m (filter_map write_set_of_mark options))
