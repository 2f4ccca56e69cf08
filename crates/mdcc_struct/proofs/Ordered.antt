-- Ascending maps.
use Rattle.std.proofs.Common.{◌≡◌, ℕ, suc, zero, ◌<◌, ◌≤◌, true, false, cond, [], ◌∷◌, ◌++◌, Option, Some, None, refl, ◌∙◌, ap, arith, one-add, inl, inr, length, take, drop}
use Rattle.std.specs.Prelude.{slice_get}
use Rattle.std.specs.Option.{option_and_then}
use Rattle.std.proofs.lemmas.Bool.{cases_Bool, and_parts}
use Rattle.std.proofs.lemmas.List.Sums.{prefix_len-le-length}
use Rattle.std.proofs.lemmas.Option.{slice_get_past}
use Rattle.mdcc_base.specs.declared.identifiers.TxId.{TxId}
use Rattle.mdcc_base.specs.TxId.{tx_eq, tx_lt}
use Rattle.mdcc_struct.specs.Maps.{TxMap, value_of, inserted, are_ascending}
use Rattle.mdcc_struct.specs.Places.{place_of}
use Rattle.mdcc_struct.proofs.Order.{tx_lt-trans, tx_lt-apart, tx_lt-apart_back, tx_lt-other}

-- the transaction is below each of the map
abbrev pub IsBelow : {X : Type 0} → TxId → TxMap X → Type 0
IsBelow tx [] = Unit {0}
IsBelow tx (e ∷ es) = (tx_lt tx e.0 ≡ true) × IsBelow tx es

pub IsBelow-trans : {X : Type 0} (s t : TxId) (m : TxMap X) → tx_lt s t ≡ true → IsBelow t m → IsBelow s m
IsBelow-trans s t [] h k = tt
IsBelow-trans s t (e ∷ es) h k = (tx_lt-trans s t e.0 h k.0, IsBelow-trans s t es h k.1)

pub ascending-tail : {X : Type 0} (e : TxId × X) (es : TxMap X) → are_ascending (e ∷ es) ≡ true → are_ascending es ≡ true
ascending-tail e [] h = refl
ascending-tail e (f ∷ es) h = (and_parts (tx_lt e.0 f.0) (are_ascending (f ∷ es)) h).1

pub ascending-below : {X : Type 0} (e : TxId × X) (es : TxMap X) → are_ascending (e ∷ es) ≡ true → IsBelow e.0 es
ascending-below e [] h = tt
ascending-below e (f ∷ es) h =
    let parts = and_parts (tx_lt e.0 f.0) (are_ascending (f ∷ es)) h in
    (parts.0, IsBelow-trans e.0 f.0 es parts.0 (ascending-below f es parts.1))

pub ascending-cons : {X : Type 0} (e : TxId × X) (es : TxMap X) → IsBelow e.0 es → are_ascending es ≡ true → are_ascending (e ∷ es) ≡ true
ascending-cons e [] h k = refl
ascending-cons e (f ∷ es) h k = rw (h.0, k) refl

pub value_of-below : {X : Type 0} (tx : TxId) (m : TxMap X) → IsBelow tx m → value_of m tx ≡ None
value_of-below tx [] h = refl
value_of-below tx (e ∷ es) h = rw (tx_lt-apart_back tx e.0 h.0) (value_of-below tx es h.1)

-- ---- places

-- the value, if the entry is that of the transaction
abbrev pub value_if : {X : Type 0} → TxId → TxId × X → Option X
value_if tx e = cond (tx_eq e.0 tx) (Some e.1) None

-- a transaction's value stands at its place
pub value_of-place : {X : Type 0} (m : TxMap X) (tx : TxId) → are_ascending m ≡ true
    → value_of m tx ≡ option_and_then (value_if tx) (slice_get m (place_of m tx))
value_of-place [] tx h = refl
value_of-place (e ∷ es) tx h =
    elim (cases_Bool (tx_lt e.0 tx)) [
      | inl less ↦ rw (less, tx_lt-apart e.0 tx less, one-add) (value_of-place es tx (ascending-tail e es h))
      | inr over ↦ elim (cases_Bool (tx_eq e.0 tx)) [
        | inl same ↦ rw (over, same) refl
        | inr other ↦
            let none = value_of-below tx es (IsBelow-trans tx e.0 es (tx_lt-other e.0 tx over other) (ascending-below e es h)) in
            rw (over, other) none
      ]
    ]

-- an entry is put in at its place
pub inserted-place : {X : Type 0} (m : TxMap X) (e : TxId × X) → inserted m e ≡ take (place_of m e.0) m ++ e ∷ drop (place_of m e.0) m
inserted-place [] e = refl
inserted-place (x ∷ xs) e =
    elim (cases_Bool (tx_lt x.0 e.0)) [
      | inl less ↦ rw (less, one-add) (ap (λ ys. x ∷ ys) (inserted-place xs e))
      | inr over ↦ rw over refl
    ]

-- where an entry is below the transaction, the place is above that entry's
pub place_of-above : {X : Type 0} (m : TxMap X) (tx : TxId) (k : ℕ) (e : TxId × X) → are_ascending m ≡ true
    → slice_get m k ≡ Some e → tx_lt e.0 tx ≡ true → k < place_of m tx
place_of-above [] tx k e h at less = absurd (cc)
place_of-above (x ∷ xs) tx zero e h at less =
    let same : x ≡ e = cc in
    let now : tx_lt x.0 tx ≡ true = rw same less in
    rw now (omega arith)
place_of-above (x ∷ xs) tx (suc k) e h at less =
    let rest : k < place_of xs tx = place_of-above xs tx k e (ascending-tail x xs h) at less in
    let below : tx_lt x.0 e.0 ≡ true = IsBelow-at x.0 xs k e (ascending-below x xs h) at in
    rw (tx_lt-trans x.0 e.0 tx below less) (omega arith)
  where
    IsBelow-at : {X : Type 0} (s : TxId) (m : TxMap X) (k : ℕ) (e : TxId × X) → IsBelow s m → slice_get m k ≡ Some e → tx_lt s e.0 ≡ true
    IsBelow-at s [] k e h at = absurd (cc)
    IsBelow-at s (x ∷ xs) zero e h at = let same : x ≡ e = cc in rw (← same) h.0
    IsBelow-at s (x ∷ xs) (suc k) e h at = IsBelow-at s xs k e h.1 at

-- where it is not, the place is no further
pub place_of-stops : {X : Type 0} (m : TxMap X) (tx : TxId) (k : ℕ) (e : TxId × X) → slice_get m k ≡ Some e → tx_lt e.0 tx ≡ false → place_of m tx ≤ k
place_of-stops [] tx k e at over = absurd (cc)
place_of-stops (x ∷ xs) tx zero e at over =
    let same : x ≡ e = cc in
    let now : tx_lt x.0 tx ≡ false = rw same over in
    rw now (omega arith)
place_of-stops (x ∷ xs) tx (suc k) e at over =
    let rest : place_of xs tx ≤ k = place_of-stops xs tx k e at over in
    elim (cases_Bool (tx_lt x.0 tx)) [
      | inl less ↦ rw less (omega arith)
      | inr stop ↦ rw stop (omega arith)
    ]

-- places of later transactions are no earlier
pub place_of-later : {X : Type 0} (m : TxMap X) (s t : TxId) → tx_lt s t ≡ true → place_of m s ≤ place_of m t
place_of-later [] s t h = omega arith
place_of-later (x ∷ xs) s t h =
    let rest = place_of-later xs s t h in
    elim (cases_Bool (tx_lt x.0 s)) [
      | inl less ↦ rw (less, tx_lt-trans x.0 s t less h) (omega arith)
      | inr stop ↦ rw stop (omega arith)
    ]

pub place_of-within : {X : Type 0} (m : TxMap X) (tx : TxId) → place_of m tx ≤ length m
place_of-within m tx = prefix_len-le-length _ m

-- what stands at a place tells the value
pub value_of-past : {X : Type 0} (m : TxMap X) (tx : TxId) (k : ℕ) → are_ascending m ≡ true → k ≡ place_of m tx → k ≡ length m → value_of m tx ≡ None
value_of-past {X = X} m tx k h place end =
    let none : slice_get m k ≡ None = slice_get_past m k (omega arith) in
    let at : value_of m tx ≡ option_and_then (value_if tx) (slice_get m k) = rw place (value_of-place m tx h) in
    at ∙ rw none refl

pub value_of-here : {X : Type 0} (m : TxMap X) (tx t : TxId) (x : X) (k : ℕ) → are_ascending m ≡ true → k ≡ place_of m tx → slice_get m k ≡ Some (t, x)
    → tx_eq t tx ≡ true → value_of m tx ≡ Some x
value_of-here {X = X} m tx t x k h place is same =
    let at : value_of m tx ≡ option_and_then (value_if tx) (slice_get m k) = rw place (value_of-place m tx h) in
    at ∙ rw (is, same) refl

pub value_of-away : {X : Type 0} (m : TxMap X) (tx t : TxId) (x : X) (k : ℕ) → are_ascending m ≡ true → k ≡ place_of m tx → slice_get m k ≡ Some (t, x)
    → tx_eq t tx ≡ false → value_of m tx ≡ None
value_of-away {X = X} m tx t x k h place is other =
    let at : value_of m tx ≡ option_and_then (value_if tx) (slice_get m k) = rw place (value_of-place m tx h) in
    at ∙ rw (is, other) refl

-- ---- what keeps the order

pub IsBelow-inserted : {X : Type 0} (t : TxId) (m : TxMap X) (e : TxId × X) → tx_lt t e.0 ≡ true → IsBelow t m → IsBelow t (inserted m e)
IsBelow-inserted t [] e h k = (h, tt)
IsBelow-inserted t (x ∷ xs) e h k =
    elim (cases_Bool (tx_lt x.0 e.0)) [
      | inl less ↦ rw less (k.0, IsBelow-inserted t xs e h k.1)
      | inr over ↦ rw over (h, k)
    ]

pub ascending-inserted : {X : Type 0} (m : TxMap X) (e : TxId × X) → are_ascending m ≡ true → value_of m e.0 ≡ None → are_ascending (inserted m e) ≡ true
ascending-inserted [] e h none = refl
ascending-inserted {X = X} (x ∷ xs) e h none =
    let apart : tx_eq x.0 e.0 ≡ false = elim (cases_Bool (tx_eq x.0 e.0)) [
      | inl same ↦ let bad : Some x.1 ≡ None = rw same at none in absurd (cc)
      | inr other ↦ other
    ] in
    let rest : value_of xs e.0 ≡ None = rw apart at none in
    elim (cases_Bool (tx_lt x.0 e.0)) [
      | inl less ↦ rw less (ascending-cons x (inserted xs e) (IsBelow-inserted x.0 xs e less (ascending-below x xs h)) (ascending-inserted xs e (ascending-tail x xs h) rest))
      | inr over ↦ rw over (rw (tx_lt-other x.0 e.0 over apart, h) refl)
    ]
