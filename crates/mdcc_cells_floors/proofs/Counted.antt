-- How many floors are set, with one more.
use Rattle.std.proofs.Common.{◌≡◌, ◌∷◌, ◌+◌, ◌<◌, ◌≤◌, [], ℕ, Bool, true, false, Option, None, Some, length, refl, subst, sym, ap, ◌∙◌, inl, inr, arith}
use Rattle.std.specs.Prelude.{if◌then◌else◌, nat_lt, not, zero, suc, ◌&&◌, ◌==◌}
use Rattle.std.proofs.lemmas.Bool.{cases_Bool}
use Rattle.std.proofs.lemmas.Bool.Decides.{nat_tests}
use Rattle.mdcc_base.specs.TxId.{tx_eq, tx_lt}
use Rattle.mdcc_base.specs.declared.identifiers.TxId.{TxId}
use Rattle.mdcc_struct.specs.Maps.{TxMap, are_ascending, inserted, value_of, with_entry}
use Rattle.mdcc_struct.proofs.Order.{tx_eq-refl, tx_eq-same}
use Rattle.mdcc_struct.proofs.Ordered.{IsBelow, ascending-below, ascending-tail, value_of-below}
use Rattle.mdcc_struct.proofs.Walks.{ascending-filter, ascending-with_entry}
use Rattle.mdcc_def_messages.specs.declared.facts.Fact.{Fact}
use Rattle.mdcc_cells_chains.specs.Unresolved.{without}
use Rattle.mdcc_cells_chains.proofs.Ascending.{without-none}
use Rattle.mdcc_cells_floors.specs.Epochs.{AreFloorsCounted, epoch_key, floors_set, is_set, or_zero, sets_first_in, with_fact, with_floor_by}
use Rattle.mdcc_cells_floors.proofs.Floored.{unless_same, value-without}

-- a floor that counts
abbrev pub one_if : Bool → ℕ
one_if set = if set then 1 else 0

pub set-inserted : (epochs : TxMap ℕ) (e : TxId × ℕ) → floors_set (inserted epochs e) ≡ one_if (is_set e) + floors_set epochs
set-inserted [] e = refl
set-inserted (x ∷ epochs) e = elim (cases_Bool (tx_lt x.0 e.0)) [
  | inl less ↦ rw less (omega (arith, set-inserted epochs e))
  | inr over ↦ rw over refl
]

pub set-entered : (epochs : TxMap ℕ) (e : TxId × ℕ) → value_of epochs e.0 ≡ None → floors_set (with_entry epochs e) ≡ one_if (is_set e) + floors_set epochs
set-entered epochs e none = rw none (set-inserted epochs e)

pub set-without : (epochs : TxMap ℕ) (key : TxId) (floor : ℕ) → are_ascending epochs ≡ true → value_of epochs key ≡ Some floor → floors_set epochs ≡ one_if (nat_lt 0 floor) + floors_set (without epochs key)
set-without [] key floor up some = absurd (cc)
set-without (e ∷ epochs) key floor up some = elim (cases_Bool (tx_eq e.0 key)) [
  | inl same ↦
      let is : e.0 ≡ key = tx_eq-same e.0 key same in
      let one : Some e.1 ≡ Some floor = rw same at some in
      let set : e.1 ≡ floor = cc in
      let gone : without epochs key ≡ epochs = without-none epochs key (value_of-below key epochs (subst (λ t. IsBelow t epochs) is (ascending-below e epochs up))) in
      rw (same, gone) (ap (λ f. one_if (nat_lt 0 f) + floors_set epochs) set)
  | inr other ↦ rw other (omega (arith, set-without epochs key floor (ascending-tail e epochs up) (rw other at some)))
]

pub set-few : (epochs : TxMap ℕ) → floors_set epochs ≤ length epochs
set-few [] = omega arith
set-few (e ∷ epochs) = elim (cases_Bool (is_set e)) [
  | inl set ↦ rw set (omega (arith, set-few epochs))
  | inr none ↦ rw none (omega (arith, set-few epochs))
]

-- a key that is found takes a place
pub shorter : (epochs : TxMap ℕ) (key : TxId) (floor : ℕ) → are_ascending epochs ≡ true → value_of epochs key ≡ Some floor → length (without epochs key) < length epochs
shorter [] key floor up some = absurd (cc)
shorter (e ∷ epochs) key floor up some = elim (cases_Bool (tx_eq e.0 key)) [
  | inl same ↦
      let is : e.0 ≡ key = tx_eq-same e.0 key same in
      let gone : without epochs key ≡ epochs = without-none epochs key (value_of-below key epochs (subst (λ t. IsBelow t epochs) is (ascending-below e epochs up))) in
      rw (same, gone) (omega arith)
  | inr other ↦ rw other (omega (arith, shorter epochs key floor (ascending-tail e epochs up) (rw other at some)))
]

-- ---- with a further fact

value-gone : (epochs : TxMap ℕ) (key : TxId) → value_of (without epochs key) key ≡ None
value-gone epochs key = value-without epochs key key ∙ ap (λ same. unless_same same (value_of epochs key)) (tx_eq-refl key)

-- the first floor of an epoch counts, and a later one stands in its place
lifted-counts : (floor seq others : ℕ) → nat_lt floor seq ≡ true → one_if (nat_lt 0 seq) + others ≡ one_if (floor == 0 && nat_lt 0 seq) + (one_if (nat_lt 0 floor) + others)
lifted-counts zero seq others less = rw less (omega arith)
lifted-counts (suc floor) seq others less = grind (arith, nat_tests)

stayed-counts : (floor seq : ℕ) → nat_lt floor seq ≡ false → one_if (floor == 0 && nat_lt 0 seq) ≡ 0
stayed-counts zero seq more = rw more refl
stayed-counts (suc floor) seq more = grind (arith, nat_tests)

set-by : (epochs : TxMap ℕ) (key : TxId) (seq : ℕ) (found : Option ℕ) → are_ascending epochs ≡ true → value_of epochs key ≡ found
    → floors_set (with_floor_by epochs key seq found) ≡ one_if (or_zero found == 0 && nat_lt 0 seq) + floors_set epochs
set-by epochs key seq None up is = set-entered epochs (key, seq) is
set-by epochs key seq (Some floor) up is = elim (cases_Bool (nat_lt floor seq)) [
  | inl less ↦
      rw less (
      set-entered (without epochs key) (key, seq) (value-gone epochs key)
      ∙ lifted-counts floor seq (floors_set (without epochs key)) less
      ∙ ap (λ others. one_if (floor == 0 && nat_lt 0 seq) + others) (sym (set-without epochs key floor up is))
      )
  | inr more ↦ rw more (omega (arith, stayed-counts floor seq more))
]

none-counts : (found : Option ℕ) (others : ℕ) → one_if (or_zero found == 0 && nat_lt 0 0) + others ≡ 0 + others
none-counts found others = elim (cases_Bool (or_zero found == 0)) [
  | inl first ↦ rw first refl
  | inr later ↦ rw later refl
]

pub set-more : (epochs : TxMap ℕ) (fact : Fact) → are_ascending epochs ≡ true → floors_set (with_fact epochs fact) ≡ one_if (sets_first_in epochs fact) + floors_set epochs
set-more epochs (Fact.Heard tx outcome) up =
    set-by epochs (epoch_key tx.centre tx.epoch) 0 (value_of epochs (epoch_key tx.centre tx.epoch)) up refl
    ∙ none-counts (value_of epochs (epoch_key tx.centre tx.epoch)) (floors_set epochs)
set-more epochs (Fact.Floor centre epoch seq) up = set-by epochs (epoch_key centre epoch) seq (value_of epochs (epoch_key centre epoch)) up refl
set-more epochs (Fact.Booted epoch) up = omega arith
set-more epochs (Fact.Promised key low high ballot) up = omega arith
set-more epochs (Fact.Voted key version ballot options offered) up = omega arith
set-more epochs (Fact.Adopted key version item adds) up = omega arith

-- ---- as the table counts them

module _ (old new : TxMap ℕ) (key : TxId) (seq set : ℕ) (counted : set ≡ floors_set old) where
  entered-counts : value_of old key ≡ None → new ≡ with_entry old (key, seq) → floors_set new ≡ one_if (nat_lt 0 seq) + set
  entered-counts none is = ap floors_set is ∙ set-entered old (key, seq) none ∙ ap (λ n. one_if (nat_lt 0 seq) + n) (sym counted)

  pub one-entered : value_of old key ≡ None → new ≡ with_entry old (key, seq) → 0 < seq → set + 1 ≡ floors_set new
  one-entered none is above = let more = entered-counts none is in let one : one_if (nat_lt 0 seq) ≡ 1 = grind (arith, nat_tests) in omega (arith, more, one)

  pub none-entered : value_of old key ≡ None → new ≡ with_entry old (key, seq) → seq ≤ 0 → set ≡ floors_set new
  none-entered none is at = let more = entered-counts none is in let no : one_if (nat_lt 0 seq) ≡ 0 = grind (arith, nat_tests) in omega (arith, more, no)

pub one-more : (epochs : TxMap ℕ) (key : TxId) (set floor : ℕ) → set ≡ floors_set epochs → are_ascending epochs ≡ true → value_of epochs key ≡ Some floor → floor ≡ 0 → set + 1 ≤ length epochs
one-more epochs key set floor counted up some none =
    let others = set-without epochs key floor up some in
    let no : one_if (nat_lt 0 floor) ≡ 0 = ap (λ f. one_if (nat_lt 0 f)) none in
    let few = set-few (without epochs key) in
    let less = shorter epochs key floor up some in
    omega (arith, counted, others, no, few, less)

module _ (old new : TxMap ℕ) (key : TxId) (seq set floor : ℕ) (was : AreFloorsCounted old set) (less : floor < seq) (some : value_of old key ≡ Some floor) (is : new ≡ with_entry (without old key) (key, seq)) where
  lifted-by : floors_set new + one_if (nat_lt 0 floor) ≡ 1 + set
  lifted-by =
      let others = set-without old key floor was.1 some in
      let more : floors_set new ≡ one_if (nat_lt 0 seq) + floors_set (without old key) = ap floors_set is ∙ set-entered (without old key) (key, seq) (value-gone old key) in
      let one : one_if (nat_lt 0 seq) ≡ 1 = grind (arith, nat_tests) in
      omega (arith, others, more, one, was.0)

  ascending-lifted : are_ascending new ≡ true
  ascending-lifted = ap are_ascending is ∙ ascending-with_entry (without old key) (key, seq) (ascending-filter (λ e. not (tx_eq e.0 key)) old was.1)

  pub set-first : floor ≡ 0 → AreFloorsCounted new (set + 1)
  set-first none =
      let more = lifted-by in
      let no : one_if (nat_lt 0 floor) ≡ 0 = ap (λ f. one_if (nat_lt 0 f)) none in
      (omega (arith, more, no), ascending-lifted)

  pub with-lifted : 0 < floor → AreFloorsCounted new set
  with-lifted above =
      let more = lifted-by in
      let also : one_if (nat_lt 0 floor) ≡ 1 = grind (arith, nat_tests) in
      (omega (arith, more, also), ascending-lifted)
