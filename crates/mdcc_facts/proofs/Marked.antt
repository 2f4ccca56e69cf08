-- What accepted marks bring, one mark at a time.
use Rattle.std.proofs.Common.{◌≡◌, ℕ, Bor, ◌+◌, Bool, true, false, [], ◌∷◌, ◌++◌, Option, Some, None, refl, sym, drop}
use Rattle.std.specs.Prelude.{filter_map, is_some, slice_get}
use Rattle.std.specs.Option.{option_copied, option_map, option_or}
use Rattle.mdcc_base.specs.TxId.{tx_eq}
use Rattle.mdcc_base.specs.declared.identifiers.TxId.{TxId}
use Rattle.mdcc_option.specs.declared.choices.Choice.{Choice}
use Rattle.mdcc_option.specs.declared.choices.Mark.{Mark}
use Rattle.mdcc_def_protocol.specs.Marks.{choice_in}
use Rattle.mdcc_struct.specs.Maps.{TxMap, inserted, union, value_of, with_entry}
use Rattle.mdcc_struct.specs.declared.options.Options.{Options}
use Rattle.mdcc_facts.specs.Walks.{least_from, lower_passing}
use Rattle.mdcc_facts.proofs.Walking.{drop_next, least_append, value_append}

-- what a choice says, with the transaction of its mark
abbrev pub marked : {Y : Type 0} → (Choice → Y) → TxId × Mark → Option (TxId × Y)
marked pick e = option_map (λ choice. (e.0, pick choice)) (choice_in e.1)

no_choice : (mark : Mark) → ((choice : Choice) → mark ≡ Mark.Accept choice → ⊥) → choice_in mark ≡ None
no_choice (Mark.Accept choice) h = absurd (h choice refl)
no_choice Mark.Reject h = refl

module _ {Y : Type 0} (pick : Choice → Y) (options : Options) (i : ℕ) (tx : TxId) (mark : Mark) (at : slice_get options i ≡ Some (tx, mark)) where
  pub least-accept : (test : TxId → Bool) (found : Option TxId) (choice : Choice) → mark ≡ Mark.Accept choice
      → least_from test found (filter_map (marked pick) (drop i options)) ≡ least_from test (lower_passing test found tx) (filter_map (marked pick) (drop (i + 1) options))
  least-accept test found choice is = rw (drop_next options i (tx, mark) at, is) refl

  pub least-reject : (test : TxId → Bool) (found : Option TxId) → ((choice : Choice) → mark ≡ Mark.Accept choice → ⊥)
      → least_from test found (filter_map (marked pick) (drop i options)) ≡ least_from test found (filter_map (marked pick) (drop (i + 1) options))
  least-reject test found h = rw (drop_next options i (tx, mark) at, no_choice mark h) refl

  pub value-other : (sought : TxId) (choice : Choice) → mark ≡ Mark.Accept choice → tx_eq tx sought ≡ false
      → value_of (filter_map (marked pick) (drop i options)) sought ≡ value_of (filter_map (marked pick) (drop (i + 1) options)) sought
  value-other sought choice is other = rw (drop_next options i (tx, mark) at, is, other) refl

  pub value-reject : (sought : TxId) → ((choice : Choice) → mark ≡ Mark.Accept choice → ⊥)
      → value_of (filter_map (marked pick) (drop i options)) sought ≡ value_of (filter_map (marked pick) (drop (i + 1) options)) sought
  value-reject sought h = rw (drop_next options i (tx, mark) at, no_choice mark h) refl

  pub union-accept : (m : TxMap Y) (choice : Choice) → mark ≡ Mark.Accept choice
      → union m (filter_map (marked pick) (drop i options)) ≡ union (with_entry m (tx, pick choice)) (filter_map (marked pick) (drop (i + 1) options))
  union-accept m choice is = rw (drop_next options i (tx, mark) at, is) refl

  pub union-reject : (m : TxMap Y) → ((choice : Choice) → mark ≡ Mark.Accept choice → ⊥)
      → union m (filter_map (marked pick) (drop i options)) ≡ union m (filter_map (marked pick) (drop (i + 1) options))
  union-reject m h = rw (drop_next options i (tx, mark) at, no_choice mark h) refl

-- ---- one entry more behind a map

pub least-offered : {Y : Type 0} (test : TxId → Bool) (found least : Option TxId) (m : TxMap Y) (t : TxId) (y : Y) → least ≡ least_from test found m
    → lower_passing test least t ≡ least_from test found (m ++ (t, y) ∷ [])
least-offered test found least m t y is = rw is (sym (least_append test found m ((t, y) ∷ [])))

or_none : {Y : Type 0} (o : Option Y) → o ≡ option_or o None
or_none None = refl
or_none (Some y) = refl

pub value-offered : {Y : Type 0} (m : TxMap Y) (t tx : TxId) (y : Y) → tx_eq t tx ≡ true → option_or (value_of m tx) (Some y) ≡ value_of (m ++ (t, y) ∷ []) tx
value-offered m t tx y same = rw (value_append m ((t, y) ∷ []) tx, same) refl

pub value-not_offered : {Y : Type 0} (m : TxMap Y) (t tx : TxId) (y : Y) → tx_eq t tx ≡ false → value_of m tx ≡ value_of (m ++ (t, y) ∷ []) tx
value-not_offered m t tx y other = rw (value_append m ((t, y) ∷ []) tx, other) (or_none (value_of m tx))

-- ---- a map with one more entry

pub union-next : {X : Type 0} (m whole n : TxMap X) (i : ℕ) (e : TxId × X) → slice_get n i ≡ Some e → union m (drop i n) ≡ whole
    → union (with_entry m e) (drop (i + 1) n) ≡ whole
union-next m whole n i e is h = rw (drop_next n i e is) at h

pub entry-new : {X : Type 0} (m : TxMap X) (e : TxId × X) → is_some (value_of m e.0) ≡ false → with_entry m e ≡ inserted m e
entry-new m e none = rw none refl

pub entry-there : {X : Type 0} (m : TxMap X) (e : TxId × X) → is_some (value_of m e.0) ≡ true → with_entry m e ≡ m
entry-there m e there = rw there refl

pub copied-some : {X : Type 0} (o : Option (Bor X)) → is_some (option_copied o) ≡ is_some o
copied-some None = refl
copied-some (Some x) = refl
