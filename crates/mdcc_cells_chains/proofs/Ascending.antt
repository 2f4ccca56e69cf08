-- Ascending maps without a transaction, and after one.
use Rattle.std.proofs.Common.{◌≡◌, ℕ, suc, ◌+◌, ◌<◌, ◌≤◌, true, false, [], ◌∷◌, ◌++◌, List, Option, Some, None, refl, sym, ◌∙◌, ap, subst, arith, one-add, inl, inr, length, take, drop, get_or}
use Rattle.std.specs.Prelude.{slice_get, is_some, if◌then◌else◌, not, insert}
use Rattle.std.specs.List.{find}
use Rattle.std.specs.List.Sorted.{IsPartitionedBy, IsPartitionPoint}
use Rattle.std.specs.Option.{option_and_then}
use Rattle.std.proofs.lemmas.Bool.{cases_Bool, cases_lt}
use Rattle.std.proofs.lemmas.List.Sums.{prefix_len_passes, prefix_len_is}
use Rattle.std.proofs.lemmas.Option.{slice_get-get_or, slice_get_past}
use Rattle.mdcc_base.specs.declared.identifiers.TxId.{TxId}
use Rattle.mdcc_base.specs.TxId.{tx_eq, tx_lt}
use Rattle.mdcc_struct.specs.Maps.{TxMap, value_of, inserted, with_entry, are_ascending}
use Rattle.mdcc_struct.specs.Places.{place_of}
use Rattle.mdcc_struct.proofs.Order.{tx_lt-apart, tx_lt-not_back, tx_lt-other, tx_eq-lt, tx_eq-sym, tx_eq-same}
use Rattle.std.proofs.lemmas.List.Edits.{length-insert}
use Rattle.mdcc_struct.proofs.Walks.{ascending-filter}
use Rattle.mdcc_struct.proofs.Ordered.{ascending-inserted, IsBelow, IsBelow-trans, ascending-tail, ascending-below, inserted-place, place_of-above, value_of-below, value_of-place}
use Rattle.mdcc_cells_chains.specs.Unresolved.{without, is_after_tx, value_if, AreTxNumbers}

-- ---- halving

pub partitioned : {X : Type 0} (m : TxMap X) (tx : TxId) → are_ascending m ≡ true → IsPartitionedBy (λ e. tx_lt e.0 tx) m
partitioned m tx h i j d up within below =
    let above : j < place_of m tx = place_of-above m tx j (get_or m j d) h (slice_get-get_or m j d within) below in
    prefix_len_passes (λ e. tx_lt e.0 tx) m i d (omega arith)

pub place_of-point : {X : Type 0} (m : TxMap X) (tx : TxId) (k : ℕ) (d : TxId × X) → k ≤ length m → IsPartitionPoint (λ e. tx_lt e.0 tx ≡ true) (λ e. tx_lt e.0 tx ≡ false) m k → k ≡ place_of m tx
place_of-point m tx k d within point = sym (prefix_len_is (λ e. tx_lt e.0 tx) m k d within (λ i l. point.0 i d (omega arith) l) (λ l. point.1 k d (omega arith) l))

-- ---- without a transaction

pub without-none : {X : Type 0} (m : TxMap X) (tx : TxId) → value_of m tx ≡ None → without m tx ≡ m
without-none [] tx none = refl
without-none {X = X} (e ∷ es) tx none = elim (cases_Bool (tx_eq e.0 tx)) [
  | inl same ↦ let bad : Some e.1 ≡ None = rw same at none in absurd (cc)
  | inr other ↦ rw other (ap (λ rest. e ∷ rest) (without-none es tx (rw other at none)))
]

without-below : {X : Type 0} (m : TxMap X) (tx : TxId) → IsBelow tx m → without m tx ≡ m
without-below m tx below = without-none m tx (value_of-below tx m below)

pub without-here : {X : Type 0} (m : TxMap X) (tx : TxId) (x : X) → are_ascending m ≡ true → value_of m tx ≡ Some x → without m tx ≡ take (place_of m tx) m ++ drop (place_of m tx + 1) m
without-here [] tx x h is = absurd (cc)
without-here {X = X} (e ∷ es) tx x h is = elim (cases_Bool (tx_lt e.0 tx)) [
  | inl less ↦
      let other : tx_eq e.0 tx ≡ false = tx_lt-apart e.0 tx less in
      let rest : without es tx ≡ take (place_of es tx) es ++ drop (place_of es tx + 1) es = without-here es tx x (ascending-tail e es h) (rw other at is) in
      let next : 1 + place_of es tx + 1 ≡ suc (place_of es tx + 1) = omega arith in
      rw (less, other, next, one-add) (ap (λ rest. e ∷ rest) rest)
  | inr over ↦ elim (cases_Bool (tx_eq e.0 tx)) [
    | inl same ↦
        let one : e.0 ≡ tx = tx_eq-same e.0 tx same in
        rw (over, same) (without-below es tx (subst (λ t. IsBelow t es) one (ascending-below e es h)))
    | inr other ↦
        let none : value_of es tx ≡ None = value_of-below tx es (IsBelow-trans tx e.0 es (tx_lt-other e.0 tx over other) (ascending-below e es h)) in
        let bad : value_of es tx ≡ Some x = rw other at is in absurd (cc)
  ]
]

length-without : {X : Type 0} (m : TxMap X) (tx : TxId) → length (without m tx) ≤ length m
length-without [] tx = omega arith
length-without (e ∷ es) tx = elim (cases_Bool (tx_eq e.0 tx)) [
  | inl same ↦ rw same (omega (arith, length-without es tx))
  | inr other ↦ rw other (omega (arith, length-without es tx))
]

-- ---- with a transaction

pub with-entry-none : {X : Type 0} (m : TxMap X) (e : TxId × X) → value_of m e.0 ≡ None → with_entry m e ≡ insert m (place_of m e.0) e
with-entry-none m e none = rw none (inserted-place m e)

pub with-entry-here : {X : Type 0} (m : TxMap X) (e : TxId × X) (x : X) → value_of m e.0 ≡ Some x → with_entry m e ≡ m
with-entry-here m e x is = rw is refl

-- ---- after a transaction

find-first : {X : Type 0} (s : TxId) (m : TxMap X) → IsBelow s m → find (λ e. tx_lt s e.0) m ≡ slice_get m 0
find-first s [] below = refl
find-first s (e ∷ es) below = rw below.0 refl

pub find-all : {X : Type 0} (m : List X) → find (λ _. true) m ≡ slice_get m 0
find-all [] = refl
find-all (x ∷ xs) = refl

pub find-after : {X : Type 0} (m : TxMap X) (last : TxId) → are_ascending m ≡ true
    → find (λ e. tx_lt last e.0) m ≡ (if is_some (value_of m last) then slice_get m (place_of m last + 1) else slice_get m (place_of m last))
find-after [] last h = refl
find-after {X = X} (e ∷ es) last h = elim (cases_Bool (tx_lt e.0 last)) [
  | inl less ↦
      let rest = find-after es last (ascending-tail e es h) in
      let next : 1 + place_of es last + 1 ≡ suc (place_of es last + 1) = omega arith in
      rw (tx_lt-not_back e.0 last less, less, tx_lt-apart e.0 last less, next, one-add) rest
  | inr over ↦ elim (cases_Bool (tx_eq e.0 last)) [
    | inl same ↦
        let one : e.0 ≡ last = tx_eq-same e.0 last same in
        let back : tx_lt last e.0 ≡ false = tx_eq-lt last e.0 (tx_eq-sym last e.0 ∙ same) in
        rw (back, over, same) (find-first last es (subst (λ t. IsBelow t es) one (ascending-below e es h)))
    | inr other ↦
        let before : tx_lt last e.0 ≡ true = tx_lt-other e.0 last over other in
        let none : value_of es last ≡ None = value_of-below last es (IsBelow-trans last e.0 es before (ascending-below e es h)) in
        rw (before, over, other, none) refl
  ]
]

-- ---- what stands at a place

abbrev pub no_entry : TxId × ℕ
no_entry = (record { centre = 0; epoch = 0; seq = 0 }, 0)

pub value-at : {X : Type 0} (m : TxMap X) (tx : TxId) (k : ℕ) (e : TxId × X) → are_ascending m ≡ true → k ≡ place_of m tx → slice_get m k ≡ Some e → value_if tx e ≡ value_of m tx
value-at m tx k e h place at = sym (value_of-place m tx h ∙ ap (λ o. option_and_then (value_if tx) o) (ap (slice_get m) (sym place) ∙ at))

pub value-past : {X : Type 0} (m : TxMap X) (tx : TxId) (k : ℕ) → are_ascending m ≡ true → k ≡ place_of m tx → slice_get m k ≡ None → None ≡ value_of m tx
value-past m tx k h place none = sym (value_of-place m tx h ∙ ap (λ o. option_and_then (value_if tx) o) (ap (slice_get m) (sym place) ∙ none))

-- where a transaction has a value, its place is within
pub place-within : {X : Type 0} (m : TxMap X) (tx : TxId) → are_ascending m ≡ true → is_some (value_of m tx) ≡ true → place_of m tx < length m
place-within m tx h some = elim (cases_lt (place_of m tx) (length m)) [
  | inl within ↦ within
  | inr past ↦
      let none : value_of m tx ≡ None = sym (value-past m tx (place_of m tx) h refl (slice_get_past m (place_of m tx) past)) in
      let bad : is_some (value_of m tx) ≡ false = ap is_some none in
      absurd (cc)
]

pub after-present : {X : Type 0} (m : TxMap X) (last : TxId) (k : ℕ) → are_ascending m ≡ true → k ≡ place_of m last → is_some (value_of m last) ≡ true → slice_get m (k + 1) ≡ find (λ e. tx_lt last e.0) m
after-present m last k h place some = sym (find-after m last h ∙ rw (some, place) refl)

pub after-absent : {X : Type 0} (m : TxMap X) (last : TxId) (k : ℕ) → are_ascending m ≡ true → k ≡ place_of m last → is_some (value_of m last) ≡ false → slice_get m k ≡ find (λ e. tx_lt last e.0) m
after-absent m last k h place none = sym (find-after m last h ∙ rw (none, place) refl)

some-value : {X : Type 0} (o : Option X) → is_some o ≡ true → (x : X) × (o ≡ Some x)
some-value None h = absurd (cc)
some-value (Some x) h = (x, refl)

pub none-value : {X : Type 0} (o : Option X) → is_some o ≡ false → o ≡ None
none-value None h = refl
none-value (Some x) h = absurd (cc)

-- ---- edits at a place

pub inserted-at : (m : TxMap ℕ) (e : TxId × ℕ) (k : ℕ) → k ≡ place_of m e.0 → is_some (value_of m e.0) ≡ false → insert m k e ≡ with_entry m e
inserted-at m e k place none = rw place (sym (with-entry-none m e (none-value (value_of m e.0) none)))

pub kept-at : (m : TxMap ℕ) (e : TxId × ℕ) → is_some (value_of m e.0) ≡ true → m ≡ with_entry m e
kept-at m e some = rw some refl

pub numbered-insert : (m : TxMap ℕ) (room capacity more : ℕ) (e : TxId × ℕ) (k : ℕ) → AreTxNumbers m room capacity → k ≡ place_of m e.0 → k ≤ length m → is_some (value_of m e.0) ≡ false → length m < room → capacity ≤ more
    → AreTxNumbers (insert m k e) room more
numbered-insert m room capacity more e k are place within none free reserved =
    let absent : value_of m e.0 ≡ None = none-value (value_of m e.0) none in
    let at : inserted m e ≡ insert m k e = inserted-place m e ∙ ap (λ p. insert m p e) (sym place) in
    record {
      ascending = subst (λ l. are_ascending l ≡ true) at (ascending-inserted m e are.ascending absent);
      within = omega (arith, length-insert m k e within, free);
      small = are.small;
      reserved = omega (arith, are.reserved, reserved);
    }

pub removed-at : (m : TxMap ℕ) (tx : TxId) (k : ℕ) → are_ascending m ≡ true → k ≡ place_of m tx → is_some (value_of m tx) ≡ true → take k m ++ drop (k + 1) m ≡ without m tx
removed-at m tx k h place some =
    let found : (x : ℕ) × (value_of m tx ≡ Some x) = some-value (value_of m tx) some in
    rw place (sym (without-here m tx found.0 h found.1))

pub absent-at : (m : TxMap ℕ) (tx : TxId) → is_some (value_of m tx) ≡ false → m ≡ without m tx
absent-at m tx none = sym (without-none m tx (none-value (value_of m tx) none))

pub numbered-without : (m : TxMap ℕ) (room capacity : ℕ) (tx : TxId) → AreTxNumbers m room capacity → AreTxNumbers (without m tx) room capacity
numbered-without m room capacity tx are = record {
  ascending = ascending-filter (λ e. not (tx_eq e.0 tx)) m are.ascending;
  within = omega (arith, length-without m tx, are.within);
  small = are.small;
  reserved = are.reserved;
}

pub after-first : {X : Type 0} (m : TxMap X) (last : Option TxId) → last ≡ None → slice_get m 0 ≡ find (λ e. is_after_tx last e.0) m
after-first m last none = sym (rw none (find-all m))
