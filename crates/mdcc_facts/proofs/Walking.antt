-- Ascending maps are gone over by the least transaction above the last one.
use Rattle.std.proofs.Common.{◌≡◌, ℕ, suc, zero, ◌+◌, ◌<◌, ◌≤◌, Bool, true, false, List, [], ◌∷◌, ◌++◌, Option, Some, None, refl, sym, ap, subst, ◌∙◌, arith, inl, inr, length, drop, fold, add-one, length-drop}
use Rattle.std.specs.Prelude.{slice_get, is_some, filter, find, if◌then◌else◌}
use Rattle.std.specs.Option.{option_map, option_or, option_and_then}
use Rattle.std.proofs.lemmas.Bool.{cases_Bool, and_parts}
use Rattle.std.proofs.lemmas.List.Sums.{fold-append}
use Rattle.std.proofs.lemmas.Option.{same_Some, slice_get_past}
use Rattle.mdcc_base.specs.TxId.{tx_eq, tx_lt}
use Rattle.mdcc_base.specs.declared.identifiers.TxId.{TxId}
use Rattle.mdcc_struct.specs.Maps.{TxMap, value_of, inserted, with_entry, union, are_ascending}
use Rattle.mdcc_struct.proofs.Order.{tx_lt-trans, tx_lt-apart, tx_lt-not_back, tx_lt-other, tx_eq-lt, tx_eq-refl, tx_eq-same}
use Rattle.mdcc_struct.proofs.Ordered.{IsBelow, ascending-tail, ascending-below}
use Rattle.mdcc_struct.proofs.Walks.{ascending-filter, drop-get}
use Rattle.mdcc_struct.proofs.Values.{filter-value, value_of-union}
use Rattle.mdcc_def_protocol.specs.Stores.{is_above}
use Rattle.mdcc_facts.specs.Walks.{each_kept, entry_list, is_lower, is_next_tx, least_from, lower_passing, next_tx, rest_of}

-- ---- the least transaction of a union

tx_lt-irreflexive : (a : TxId) → tx_lt a a ≡ false
tx_lt-irreflexive a = tx_eq-lt a a (tx_eq-refl a)

-- the order of two further transactions does not matter
both_lower : (test : TxId → Bool) (found : Option TxId) (a b : TxId) → test a ≡ true → test b ≡ true
    → lower_passing test (lower_passing test found a) b ≡ lower_passing test (lower_passing test found b) a
both_lower test None a b p q =
    elim (cases_Bool (tx_lt a b)) [
      | inl less ↦ rw (p, q, less, tx_lt-not_back a b less) refl
      | inr over ↦ elim (cases_Bool (tx_eq a b)) [
        | inl same ↦ rw (tx_eq-same a b same) refl
        | inr other ↦ rw (p, q, over, tx_lt-other a b over other) refl
      ]
    ]
both_lower test (Some c) a b p q =
    elim (cases_Bool (tx_lt a c)) [
      | inl a_low ↦ elim (cases_Bool (tx_lt b c)) [
        | inl b_low ↦ elim (cases_Bool (tx_lt a b)) [
          | inl less ↦ rw (p, q, a_low, b_low, less, tx_lt-not_back a b less) refl
          | inr over ↦ elim (cases_Bool (tx_eq a b)) [
            | inl same ↦ rw (tx_eq-same a b same) refl
            | inr other ↦ rw (p, q, a_low, b_low, over, tx_lt-other a b over other) refl
          ]
        ]
        | inr b_high ↦ rw (p, q, a_low, b_high, not_below a b c a_low b_high, a_low) refl
      ]
      | inr a_high ↦ elim (cases_Bool (tx_lt b c)) [
        | inl b_low ↦ rw (p, q, a_high, b_low, not_below b a c b_low a_high) refl
        | inr b_high ↦ rw (p, q, a_high, b_high, a_high) refl
      ]
    ]
  where
    not_below : (a b c : TxId) → tx_lt a c ≡ true → tx_lt b c ≡ false → tx_lt b a ≡ false
    not_below a b c low high =
        elim (cases_Bool (tx_lt b a)) [
          | inl less ↦ absurd (let bad : true ≡ false = sym (tx_lt-trans b a c less low) ∙ high in cc)
          | inr over ↦ over
        ]

lower-swap : (test : TxId → Bool) (found : Option TxId) (a b : TxId)
    → lower_passing test (lower_passing test found a) b ≡ lower_passing test (lower_passing test found b) a
lower-swap test found a b =
    elim (cases_Bool (test a)) [
      | inl p ↦ elim (cases_Bool (test b)) [
        | inl q ↦ both_lower test found a b p q
        | inr q ↦ rw q refl
      ]
      | inr p ↦ rw p refl
    ]

lower-again : (test : TxId → Bool) (found : Option TxId) (a : TxId) → lower_passing test (lower_passing test found a) a ≡ lower_passing test found a
lower-again test found a =
    elim (cases_Bool (test a)) [
      | inl p ↦ elim (cases_Bool (is_lower found a)) [
        | inl low ↦ rw (p, low, tx_lt-irreflexive a) refl
        | inr high ↦ rw (p, high, high) refl
      ]
      | inr p ↦ rw p refl
    ]

least-lower : {X : Type 0} (test : TxId → Bool) (found : Option TxId) (tx : TxId) (m : TxMap X)
    → least_from test (lower_passing test found tx) m ≡ lower_passing test (least_from test found m) tx
least-lower test found tx [] = refl
least-lower test found tx (e ∷ es) =
    ap (λ f. least_from test f es) (lower-swap test found tx e.0) ∙ least-lower test (lower_passing test found e.0) tx es

least-there : {X : Type 0} (test : TxId → Bool) (found : Option TxId) (tx : TxId) (m : TxMap X) → is_some (value_of m tx) ≡ true
    → least_from test (lower_passing test found tx) m ≡ least_from test found m
least-there test found tx [] h = absurd (cc)
least-there test found tx (e ∷ es) h =
    elim (cases_Bool (tx_eq e.0 tx)) [
      | inl same ↦ rw (tx_eq-same e.0 tx same) (ap (λ f. least_from test f es) (lower-again test found tx))
      | inr other ↦
          let rest : is_some (value_of es tx) ≡ true = rw other at h in
          ap (λ f. least_from test f es) (lower-swap test found tx e.0) ∙ least-there test (lower_passing test found e.0) tx es rest
    ]

least-inserted : {X : Type 0} (test : TxId → Bool) (found : Option TxId) (m : TxMap X) (e : TxId × X)
    → least_from test found (inserted m e) ≡ least_from test (lower_passing test found e.0) m
least-inserted test found [] e = refl
least-inserted test found (x ∷ xs) e =
    elim (cases_Bool (tx_lt x.0 e.0)) [
      | inl less ↦ rw less (least-inserted test (lower_passing test found x.0) xs e ∙ ap (λ f. least_from test f xs) (lower-swap test found x.0 e.0))
      | inr over ↦ rw over refl
    ]

least-with_entry : {X : Type 0} (test : TxId → Bool) (found : Option TxId) (m : TxMap X) (e : TxId × X)
    → least_from test found (with_entry m e) ≡ lower_passing test (least_from test found m) e.0
least-with_entry test found m e =
    elim (cases_Bool (is_some (value_of m e.0))) [
      | inl there ↦ rw there (sym (least-there test found e.0 m there) ∙ least-lower test found e.0 m)
      | inr none ↦ rw none (least-inserted test found m e ∙ least-lower test found e.0 m)
    ]

pub least_union : {X : Type 0} (test : TxId → Bool) (found : Option TxId) (m n : TxMap X)
    → least_from test (least_from test found m) n ≡ least_from test found (union m n)
least_union test found m [] = refl
least_union test found m (e ∷ es) =
    ap (λ f. least_from test f es) (sym (least-with_entry test found m e)) ∙ least_union test found (with_entry m e) es

pub value_union : {X : Type 0} (m n : TxMap X) (tx : TxId) → value_of (union m n) tx ≡ option_or (value_of m tx) (value_of n tx)
value_union m n tx = value_of-union m n tx

pub least_append : {X : Type 0} (test : TxId → Bool) (found : Option TxId) (m n : TxMap X) → least_from test found (m ++ n) ≡ least_from test (least_from test found m) n
least_append test found [] n = refl
least_append test found (e ∷ es) n = least_append test (lower_passing test found e.0) es n

pub value_append : {X : Type 0} (m n : TxMap X) (tx : TxId) → value_of (m ++ n) tx ≡ option_or (value_of m tx) (value_of n tx)
value_append [] n tx = grind arith
value_append (e ∷ es) n tx = let ih = value_append es n tx in grind (arith, ih)

pub drop_next : {X : Type 0} (xs : List X) (i : ℕ) (x : X) → slice_get xs i ≡ Some x → drop i xs ≡ x ∷ drop (i + 1) xs
drop_next xs i x at = drop-get xs i x at

-- ---- the least transaction of an ascending map

least-stays : {X : Type 0} (test : TxId → Bool) (tx : TxId) (m : TxMap X) → IsBelow tx m → least_from test (Some tx) m ≡ Some tx
least-stays test tx [] h = refl
least-stays test tx (e ∷ es) h =
    elim (cases_Bool (test e.0)) [
      | inl p ↦ rw (p, tx_lt-not_back tx e.0 h.0) (least-stays test tx es h.1)
      | inr p ↦ rw p (least-stays test tx es h.1)
    ]

abbrev pub first_tx : {X : Type 0} → TxMap X → Option TxId
first_tx m = option_map (λ e. e.0) (slice_get m 0)

least-first : {X : Type 0} (test : TxId → Bool) (m : TxMap X) → are_ascending m ≡ true → least_from test None m ≡ first_tx (filter (λ e. test e.0) m)
least-first test [] h = refl
least-first test (e ∷ es) h =
    elim (cases_Bool (test e.0)) [
      | inl p ↦ rw p (least-stays test e.0 es (ascending-below e es h))
      | inr p ↦ rw p (least-first test es (ascending-tail e es h))
    ]

pub next-first : {X : Type 0} (keep : TxId → Bool) (last : Option TxId) (m : TxMap X) → are_ascending m ≡ true → next_tx keep last m ≡ first_tx (rest_of keep last m)
next-first keep last m h = least-first (is_next_tx keep last) m h

-- ---- what is left

above-trans : (last : Option TxId) (a b : TxId) → is_above last a ≡ true → tx_lt a b ≡ true → is_above last b ≡ true
above-trans None a b h k = refl
above-trans (Some c) a b h k = tx_lt-trans c a b h k

-- all above an entry are above what that one is above of
rest-further : {X : Type 0} (keep : TxId → Bool) (last : Option TxId) (tx : TxId) (m : TxMap X) → is_above last tx ≡ true → IsBelow tx m
    → rest_of keep last m ≡ rest_of keep (Some tx) m
rest-further keep last tx [] above h = refl
rest-further keep last tx (e ∷ es) above h =
    elim (cases_Bool (keep e.0)) [
      | inl kept ↦ rw (above-trans last tx e.0 above h.0, h.0, kept) (ap (λ xs. e ∷ xs) (rest-further keep last tx es above h.1))
      | inr left ↦ rw (above-trans last tx e.0 above h.0, h.0, left) (rest-further keep last tx es above h.1)
    ]

IsBelow-kept : {X : Type 0} (p : TxId × X → Bool) (tx : TxId) (m : TxMap X) (e : TxId × X) (es : TxMap X) → IsBelow tx m → filter p m ≡ e ∷ es → tx_lt tx e.0 ≡ true
IsBelow-kept p tx [] e es h is = absurd (cc)
IsBelow-kept p tx (x ∷ xs) e es h is =
    elim (cases_Bool (p x)) [
      | inl keeps ↦
          let now : x ∷ filter p xs ≡ e ∷ es = rw keeps at is in
          let same : x ≡ e = cc in
          rw (← same) h.0
      | inr leaves ↦
          let now : filter p xs ≡ e ∷ es = rw leaves at is in
          IsBelow-kept p tx xs e es h.1 now
    ]

pub rest-next : {X : Type 0} (keep : TxId → Bool) (last : Option TxId) (m : TxMap X) (e : TxId × X) (es : TxMap X) → are_ascending m ≡ true
    → rest_of keep last m ≡ e ∷ es → rest_of keep (Some e.0) m ≡ es
rest-next keep last [] e es h is = absurd (cc)
rest-next keep last (x ∷ xs) e es h is =
    elim (cases_Bool (is_next_tx keep last x.0)) [
      | inl next ↦
          let parts = and_parts (is_above last x.0) (keep x.0) next in
          let now : x ∷ rest_of keep last xs ≡ e ∷ es = rw next at is in
          let same : x ≡ e = cc in
          let rest : rest_of keep last xs ≡ es = cc in
          let further : rest_of keep last xs ≡ rest_of keep (Some x.0) xs = rest-further keep last x.0 xs parts.0 (ascending-below x xs h) in
          let self : tx_lt x.0 x.0 ≡ false = tx_lt-irreflexive x.0 in
          let here : rest_of keep (Some x.0) (x ∷ xs) ≡ es = rw self (sym further ∙ rest) in
          subst (λ y. rest_of keep (Some y.0) (x ∷ xs) ≡ es) same here
      | inr past ↦
          let now : rest_of keep last xs ≡ e ∷ es = rw past at is in
          let below : tx_lt x.0 e.0 ≡ true = IsBelow-kept (λ y. is_next_tx keep last y.0) x.0 xs e es (ascending-below x xs h) now in
          rw (tx_lt-not_back x.0 e.0 below) (rest-next keep last xs e es (ascending-tail x xs h) now)
    ]

-- the entry of the next transaction, and what is left behind it
pub rest-entry : {X : Type 0} (keep : TxId → Bool) (last : Option TxId) (m : TxMap X) (tx : TxId) → are_ascending m ≡ true → next_tx keep last m ≡ Some tx
    → (rest_of keep last m ≡ entry_list tx (value_of m tx) ++ rest_of keep (Some tx) m) × (length (rest_of keep (Some tx) m) < length (rest_of keep last m))
rest-entry {X = X} keep last m tx h next = go (rest_of keep last m) refl
  where
    p : TxId × X → Bool
    p e = is_next_tx keep last e.0

    go : (rest : TxMap X) → rest_of keep last m ≡ rest
        → (rest_of keep last m ≡ entry_list tx (value_of m tx) ++ rest_of keep (Some tx) m) × (length (rest_of keep (Some tx) m) < length (rest_of keep last m))
    go [] is =
        let none : next_tx keep last m ≡ None = next-first keep last m h ∙ ap first_tx is in
        absurd (let bad : Some tx ≡ None = sym next ∙ none in cc)
    go (e ∷ es) is =
        let first : next_tx keep last m ≡ Some e.0 = next-first keep last m h ∙ ap first_tx is in
        let some : Some e.0 ≡ Some tx = sym first ∙ next in
        let same : e.0 ≡ tx = cc in
        let there : value_of (e ∷ es) tx ≡ Some e.1 = rw (← same, tx_eq-refl e.0) refl in
        let found : value_of m tx ≡ Some e.1 = (filter-value p m tx e.1 h (ap (λ xs. value_of xs tx) is ∙ there)).0 in
        let left : rest_of keep (Some tx) m ≡ es = rw same at (rest-next keep last m e es h is) in
        (rw (found, left, ← same) is, rw (is, left) (omega arith))

-- ---- the entry at a place

IsBelow-at : {X : Type 0} (tx : TxId) (m : TxMap X) (k : ℕ) (e : TxId × X) → IsBelow tx m → slice_get m k ≡ Some e → tx_lt tx e.0 ≡ true
IsBelow-at tx [] k e h at = absurd (cc)
IsBelow-at tx (x ∷ xs) zero e h at = let same : x ≡ e = cc in rw (← same) h.0
IsBelow-at tx (x ∷ xs) (suc k) e h at = IsBelow-at tx xs k e h.1 at

value-at : {X : Type 0} (m : TxMap X) (k : ℕ) (e : TxId × X) → are_ascending m ≡ true → slice_get m k ≡ Some e → value_of m e.0 ≡ Some e.1
value-at [] k e h at = absurd (cc)
value-at (x ∷ xs) zero e h at = let same : x ≡ e = cc in rw (same, tx_eq-refl e.0) refl
value-at (x ∷ xs) (suc k) e h at =
    let below : tx_lt x.0 e.0 ≡ true = IsBelow-at x.0 xs k e (ascending-below x xs h) at in
    rw (tx_lt-apart x.0 e.0 below) (value-at xs k e (ascending-tail x xs h) at)

-- an entry with the value that a map has for its transaction
abbrev pub entry_in : {X : Type 0} → TxMap X → TxId → Option (TxId × X)
entry_in m tx = option_map (λ x. (tx, x)) (value_of m tx)

pub entry-at : {X : Type 0} (p : TxId × X → Bool) (m : TxMap X) (k : ℕ) → are_ascending m ≡ true
    → slice_get (filter p m) k ≡ option_and_then (entry_in m) (option_map (λ e. e.0) (slice_get (filter p m) k))
entry-at {X = X} p m k h = go (slice_get (filter p m) k) refl
  where
    go : (o : Option (TxId × X)) → slice_get (filter p m) k ≡ o → slice_get (filter p m) k ≡ option_and_then (entry_in m) (option_map (λ e. e.0) (slice_get (filter p m) k))
    go None is = rw is refl
    go (Some e) is =
        let kept : value_of (filter p m) e.0 ≡ Some e.1 = value-at (filter p m) k e (ascending-filter p m h) is in
        let found : value_of m e.0 ≡ Some e.1 = (filter-value p m e.0 e.1 h kept).0 in
        rw (is, found) refl

-- where each is kept
pub each-filter : {X : Type 0} (m : TxMap X) → filter (λ e. true) m ≡ m
each-filter [] = refl
each-filter (e ∷ es) = ap (λ xs. e ∷ xs) (each-filter es)

-- ---- steps of a walk

rest-end : {X : Type 0} (keep : TxId → Bool) (last : Option TxId) (m : TxMap X) → are_ascending m ≡ true → next_tx keep last m ≡ None → rest_of keep last m ≡ []
rest-end {X = X} keep last m h none = go (rest_of keep last m) (sym (next-first keep last m h) ∙ none)
  where
    go : (rest : TxMap X) → first_tx rest ≡ None → rest ≡ []
    go [] is = refl
    go (e ∷ es) is = absurd (cc)

drop-behind : {X : Type 0} (xs : List X) (i : ℕ) (y : X) (ys : List X) → drop i xs ≡ y ∷ ys → drop (i + 1) xs ≡ ys
drop-behind [] zero y ys is = absurd (cc)
drop-behind [] (suc i) y ys is = absurd (cc)
drop-behind (x ∷ xs) zero y ys is = cc
drop-behind (x ∷ xs) (suc i) y ys is = rw add-one (rw add-one at (drop-behind xs i y ys is))

get-behind : {X : Type 0} (xs : List X) (i : ℕ) → slice_get (drop i xs) 0 ≡ slice_get xs i
get-behind [] zero = refl
get-behind [] (suc i) = refl
get-behind (x ∷ xs) zero = refl
get-behind (x ∷ xs) (suc i) = get-behind xs i

none-behind : {X : Type 0} (xs : List X) (i place : ℕ) → drop i xs ≡ [] → i ≤ place → slice_get xs place ≡ None
none-behind xs i place is h = slice_get_past xs place (omega (arith, length-drop i xs, ap length is))

module _ {X : Type 0} (keep : TxId → Bool) (last : Option TxId) (m : TxMap X) (up : are_ascending m ≡ true) where
  abbrev all_kept : TxMap X
  all_kept = rest_of keep None m

  pub walk-step : (i : ℕ) (tx : TxId) → drop i all_kept ≡ rest_of keep last m → next_tx keep last m ≡ Some tx → drop (i + 1) all_kept ≡ rest_of keep (Some tx) m
  walk-step i tx is next = go (value_of m tx) refl
    where
      go : (o : Option X) → value_of m tx ≡ o → drop (i + 1) all_kept ≡ rest_of keep (Some tx) m
      go None none =
          let parts = rest-entry keep last m tx up next in
          let same : rest_of keep last m ≡ rest_of keep (Some tx) m = rw none at parts.0 in
          absurd (omega (arith, parts.1, ap length same))
      go (Some x) some =
          let parts = rest-entry keep last m tx up next in
          let entry : rest_of keep last m ≡ (tx, x) ∷ rest_of keep (Some tx) m = rw some at parts.0 in
          drop-behind all_kept i (tx, x) (rest_of keep (Some tx) m) (is ∙ entry)

  pub walk-none : (i place : ℕ) → drop i all_kept ≡ rest_of keep last m → next_tx keep last m ≡ None → i ≤ place → slice_get all_kept place ≡ None
  walk-none i place is none h = none-behind all_kept i place (is ∙ rest-end keep last m up none) h

  pub walk-found : (place : ℕ) → drop place all_kept ≡ rest_of keep last m → next_tx keep last m ≡ option_map (λ e. e.0) (slice_get all_kept place)
  walk-found place is = next-first keep last m up ∙ ap (λ xs. option_map (λ e. e.0) (slice_get xs 0)) (sym is) ∙ ap (option_map (λ e. e.0)) (get-behind all_kept place)

  pub fold-next : {A : Type 0} (step : A → TxId × X → A) (acc : A) (tx : TxId) → next_tx keep last m ≡ Some tx
      → fold step (fold step acc (entry_list tx (value_of m tx))) (rest_of keep (Some tx) m) ≡ fold step acc (rest_of keep last m)
  fold-next step acc tx next =
      let parts = rest-entry keep last m tx up next in
      rw parts.0 (sym (fold-append step acc (entry_list tx (value_of m tx)) (rest_of keep (Some tx) m)))

  pub rest-shorter : (tx : TxId) → next_tx keep last m ≡ Some tx → length (rest_of keep (Some tx) m) < length (rest_of keep last m)
  rest-shorter tx next = (rest-entry keep last m tx up next).1

  pub fold-end : {A : Type 0} (step : A → TxId × X → A) (acc : A) → next_tx keep last m ≡ None → fold step acc (rest_of keep last m) ≡ acc
  fold-end step acc none = ap (fold step acc) (rest-end keep last m up none)

-- ---- the entry at a place, by its transaction and its value

module _ {X : Type 0} (p : TxId × X → Bool) (m : TxMap X) (place : ℕ) (tx : TxId) (up : are_ascending m ≡ true)
    (is : Some tx ≡ option_map (λ e. e.0) (slice_get (filter p m) place)) where
  pub entry-some : (x : X) → Some x ≡ value_of m tx → slice_get (filter p m) place ≡ Some (tx, x)
  entry-some x some = entry-at p m place up ∙ rw (← is, ← some) refl

  pub entry-none : None ≡ value_of m tx → slice_get (filter p m) place ≡ None
  entry-none none = entry-at p m place up ∙ rw (← is, ← none) refl

-- ---- the next entry

find-next : {X : Type 0} (last : Option TxId) (m : TxMap X) → find (λ e. is_above last e.0) m ≡ slice_get (rest_of each_kept last m) 0
find-next last [] = refl
find-next last (e ∷ es) =
    elim (cases_Bool (is_above last e.0)) [
      | inl above ↦ rw above refl
      | inr below ↦ rw below (find-next last es)
    ]

next_entry : {X : Type 0} (last : Option TxId) (m : TxMap X) → are_ascending m ≡ true
    → find (λ e. is_above last e.0) m ≡ option_and_then (entry_in m) (next_tx each_kept last m)
next_entry last m up =
    find-next last m ∙ entry-at (λ e. is_next_tx each_kept last e.0) m 0 up ∙ ap (option_and_then (entry_in m)) (sym (next-first each_kept last m up))

module _ {X : Type 0} (last : Option TxId) (m : TxMap X) (up : are_ascending m ≡ true) where
  pub found-some : (tx : TxId) (x : X) → Some tx ≡ next_tx each_kept last m → Some x ≡ value_of m tx → Some (tx, x) ≡ find (λ e. is_above last e.0) m
  found-some tx x next some = rw (next_entry last m up, ← next, ← some) refl

  pub found-none : (tx : TxId) → Some tx ≡ next_tx each_kept last m → None ≡ value_of m tx → None ≡ find (λ e. is_above last e.0) m
  found-none tx next none = rw (next_entry last m up, ← next, ← none) refl

  pub found-end : None ≡ next_tx each_kept last m → None ≡ find (λ e. is_above last e.0) m
  found-end next = rw (next_entry last m up, ← next) refl

-- ---- the entries one after the other

past-none : {X : Type 0} (xs : List X) (i : ℕ) → slice_get xs i ≡ None → length xs ≤ i
past-none [] i is = omega arith
past-none (x ∷ xs) zero is = absurd (cc)
past-none (x ∷ xs) (suc i) is = omega (arith, past-none xs i is)

-- an entry together with another value
abbrev pub beside : {X B : Type 0} → B → Option (TxId × X) → Option (B × TxId × X)
beside b o = option_map (λ e. (b, e.0, e.1)) o

pub beside-none : {X B : Type 0} (b : B) (o : Option (TxId × X)) → beside b o ≡ None → o ≡ None
beside-none b None h = refl
beside-none b (Some e) h = absurd (cc)

pub beside-some : {X B : Type 0} (b : B) (o : Option (TxId × X)) (found : B × TxId × X) → beside b o ≡ Some found → o ≡ Some (found.1, found.2)
beside-some b None found h = absurd (cc)
beside-some {X = X} {B = B} b (Some e) found h = ap (λ (p : B × TxId × X). Some (p.1, p.2)) (same_Some (b, e.0, e.1) found h)

module _ {X : Type 0} (last : Option TxId) (m : TxMap X) (i : ℕ) (so_far : drop i m ≡ rest_of each_kept last m) where
  pub mark-found : find (λ e. is_above last e.0) m ≡ slice_get m i
  mark-found = find-next last m ∙ ap (λ xs. slice_get xs 0) (sym so_far) ∙ get-behind m i

  pub mark-none : find (λ e. is_above last e.0) m ≡ None → (place : ℕ) → i ≤ place → slice_get m place ≡ None
  mark-none none place h = slice_get_past m place (omega (arith, past-none m i (sym mark-found ∙ none)))

  pub mark-step : are_ascending m ≡ true → (e : TxId × X) → find (λ e. is_above last e.0) m ≡ Some e → drop (i + 1) m ≡ rest_of each_kept (Some e.0) m
  mark-step up e found =
      let is : rest_of each_kept last m ≡ e ∷ drop (i + 1) m = sym so_far ∙ drop-get m i e (sym mark-found ∙ found) in
      sym (rest-next each_kept last m e (drop (i + 1) m) up is)

-- ---- a value where the transaction is kept

pub value_kept : {X : Type 0} (keep : TxId → Bool) (m : TxMap X) (tx : TxId) → value_of (filter (λ e. keep e.0) m) tx ≡ (if keep tx then value_of m tx else None)
value_kept keep [] tx =
    elim (cases_Bool (keep tx)) [
      | inl kept ↦ rw kept refl
      | inr left ↦ rw left refl
    ]
value_kept keep (e ∷ es) tx =
    let ih = value_kept keep es tx in
    elim (cases_Bool (tx_eq e.0 tx)) [
      | inl same ↦ elim (cases_Bool (keep e.0)) [
        | inl kept ↦ let now : keep tx ≡ true = rw (tx_eq-same e.0 tx same) at kept in rw (kept, same, now) refl
        | inr left ↦ let now : keep tx ≡ false = rw (tx_eq-same e.0 tx same) at left in rw (left, now) (rw now at ih)
      ]
      | inr other ↦ elim (cases_Bool (keep e.0)) [
        | inl kept ↦ rw (kept, other) ih
        | inr left ↦ rw (left, other) ih
      ]
    ]
