-- The floors of a table with one more fact.
use Rattle.std.proofs.Common.{◌≡◌, ◌∷◌, [], ℕ, Bool, true, false, List, Option, None, Some, max, refl, sym, ap, ◌∙◌, inl, inr, arith}
use Rattle.std.specs.List.{filter, list_all}
use Rattle.std.specs.Option.{option_or}
use Rattle.std.specs.Prelude.{if◌then◌else◌, nat_lt, not, ◌==◌, ◌&&◌}
use Rattle.std.proofs.lemmas.Bool.{cases_Bool}
use Rattle.std.proofs.lemmas.Bool.Decides.{nat_tests}
use Rattle.mdcc_base.specs.TxId.{tx_eq}
use Rattle.mdcc_base.specs.declared.identifiers.TxId.{TxId}
use Rattle.mdcc_struct.specs.Maps.{TxMap, value_of, with_entry}
use Rattle.mdcc_struct.proofs.Order.{tx_eq-same, tx_eq-sym}
use Rattle.mdcc_struct.proofs.Values.{entry_value, value_of-with_entry}
use Rattle.mdcc_def_messages.specs.declared.facts.Fact.{Fact}
use Rattle.mdcc_def_protocol.specs.Facts.{floor_of, floor_set}
use Rattle.mdcc_cells_chains.specs.Unresolved.{without}
use Rattle.mdcc_cells_floors.specs.Epochs.{epoch_key, floor_in, or_zero, with_fact, with_floor, with_floor_by}

-- ---- what is found without a transaction

abbrev pub unless_same : Bool → Option ℕ → Option ℕ
unless_same true found = None
unless_same false found = found

unless-none : (same : Bool) → unless_same same None ≡ None
unless-none true = refl
unless-none false = refl

pub value-without : (epochs : TxMap ℕ) (key other : TxId) → value_of (without epochs key) other ≡ unless_same (tx_eq key other) (value_of epochs other)
value-without [] key other = sym (unless-none (tx_eq key other))
value-without (e ∷ epochs) key other = elim (cases_Bool (tx_eq e.0 key)) [
  | inl gone ↦
      let is : e.0 ≡ key = tx_eq-same e.0 key gone in
      let alike : tx_eq e.0 other ≡ tx_eq key other = ap (λ t. tx_eq t other) is in
      rw (gone, alike) (value-without epochs key other ∙ passed (tx_eq key other) e.1 (value_of epochs other))
  | inr stays ↦ elim (cases_Bool (tx_eq e.0 other)) [
    | inl found ↦
        let at : e.0 ≡ other = tx_eq-same e.0 other found in
        let apart : tx_eq key other ≡ false = tx_eq-sym key other ∙ ap (λ t. tx_eq t key) (sym at) ∙ stays in
        rw (stays, found, apart) refl
    | inr passed-by ↦ rw (stays, passed-by) (value-without epochs key other)
  ]
]
  where
    passed : (same : Bool) (value : ℕ) (rest : Option ℕ) → unless_same same rest ≡ unless_same same (if same then Some value else rest)
    passed true value rest = refl
    passed false value rest = refl

-- ---- what is found with a floor

-- the number of a key where another one may be set
abbrev set_beside : ℕ → Bool → ℕ
set_beside seq same = if same then seq else 0

entered : (found : Option ℕ) (seq : ℕ) (same : Bool) → (same ≡ true → found ≡ None) → or_zero (option_or found (if same then Some seq else None)) ≡ max (or_zero found) (set_beside seq same)
entered None seq true none = omega arith
entered None seq false none = refl
entered (Some floor) seq true none = let no : Some floor ≡ None = none refl in absurd (cc)
entered (Some floor) seq false none = omega arith

lifted : (found : Option ℕ) (floor seq : ℕ) (same : Bool) → (same ≡ true → found ≡ Some floor) → nat_lt floor seq ≡ true
    → or_zero (option_or (unless_same same found) (if same then Some seq else None)) ≡ max (or_zero found) (set_beside seq same)
lifted None floor seq true is less = let no : None ≡ Some floor = is refl in absurd (cc)
lifted None floor seq false is less = refl
lifted (Some x) floor seq true is less = let same : Some x ≡ Some floor = is refl in let e : x ≡ floor = cc in grind (arith, nat_tests)
lifted (Some x) floor seq false is less = omega arith

stayed : (found : Option ℕ) (floor seq : ℕ) (same : Bool) → (same ≡ true → found ≡ Some floor) → nat_lt floor seq ≡ false → or_zero found ≡ max (or_zero found) (set_beside seq same)
stayed None floor seq true is more = let no : None ≡ Some floor = is refl in absurd (cc)
stayed None floor seq false is more = refl
stayed (Some x) floor seq true is more = let same : Some x ≡ Some floor = is refl in let e : x ≡ floor = cc in grind (arith, nat_tests)
stayed (Some x) floor seq false is more = omega arith

same-value : (epochs : TxMap ℕ) (key other : TxId) (found : Option ℕ) → value_of epochs key ≡ found → tx_eq key other ≡ true → value_of epochs other ≡ found
same-value epochs key other found is same = ap (value_of epochs) (sym (tx_eq-same key other same)) ∙ is

floor-by : (epochs : TxMap ℕ) (key other : TxId) (seq : ℕ) (found : Option ℕ) → value_of epochs key ≡ found
    → or_zero (value_of (with_floor_by epochs key seq found) other) ≡ max (or_zero (value_of epochs other)) (set_beside seq (tx_eq key other))
floor-by epochs key other seq None is =
    ap or_zero (value_of-with_entry epochs (key, seq) other)
    ∙ entered (value_of epochs other) seq (tx_eq key other) (same-value epochs key other None is)
floor-by epochs key other seq (Some floor) is = elim (cases_Bool (nat_lt floor seq)) [
  | inl less ↦
      rw less (
      ap or_zero
      (value_of-with_entry (without epochs key) (key, seq) other
      ∙ ap (λ o. option_or o (entry_value (key, seq) other))
      (value-without epochs key other))
      ∙ lifted (value_of epochs other) floor seq (tx_eq key other) (same-value epochs key other (Some floor) is) less
      )
  | inr more ↦ rw more (stayed (value_of epochs other) floor seq (tx_eq key other) (same-value epochs key other (Some floor) is) more)
]

epochs-same : (centre epoch centre' epoch' : ℕ) → tx_eq (epoch_key centre epoch) (epoch_key centre' epoch') ≡ (centre == centre' && epoch == epoch')
epochs-same centre epoch centre' epoch' = grind (arith, nat_tests)

pub floor-with : (epochs : TxMap ℕ) (centre epoch seq centre' epoch' : ℕ)
    → floor_in (with_floor epochs centre epoch seq) centre' epoch' ≡ max (floor_in epochs centre' epoch') (if centre == centre' && epoch == epoch' then seq else 0)
floor-with epochs centre epoch seq centre' epoch' =
    floor-by epochs (epoch_key centre epoch) (epoch_key centre' epoch') seq (value_of epochs (epoch_key centre epoch)) refl
    ∙ ap (λ same. max (floor_in epochs centre' epoch') (set_beside seq same)) (epochs-same centre epoch centre' epoch')

none-set : (floor : ℕ) (same : Bool) → max floor (if same then 0 else 0) ≡ max floor 0
none-set floor true = refl
none-set floor false = refl

pub floors-more : (epochs : TxMap ℕ) (facts : List Fact) (fact : Fact) (centre epoch : ℕ) → floor_in epochs centre epoch ≡ floor_of facts centre epoch
    → floor_in (with_fact epochs fact) centre epoch ≡ floor_of (fact ∷ facts) centre epoch
floors-more epochs facts (Fact.Heard tx outcome) centre epoch is =
    floor-with epochs tx.centre tx.epoch 0 centre epoch ∙ none-set (floor_in epochs centre epoch) (tx.centre == centre && tx.epoch == epoch) ∙ ap (λ f. max f 0) is
floors-more epochs facts (Fact.Floor centre' epoch' seq) centre epoch is =
    floor-with epochs centre' epoch' seq centre epoch ∙ ap (λ f. max f (floor_set centre epoch (Fact.Floor centre' epoch' seq))) is
floors-more epochs facts (Fact.Booted e) centre epoch is = omega (arith, is)
floors-more epochs facts (Fact.Promised key low high ballot) centre epoch is = omega (arith, is)
floors-more epochs facts (Fact.Voted key version ballot options offered) centre epoch is = omega (arith, is)
floors-more epochs facts (Fact.Adopted key version item adds) centre epoch is = omega (arith, is)
