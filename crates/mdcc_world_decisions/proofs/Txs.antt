-- The transactions that were begun: those of the map are those of the ledger.
use Rattle.std.proofs.Common.{◌≡◌, ◌≤◌, ℕ, ◌+◌, Bool, true, false, ◌&&◌, ◌||◌, List, [], ◌∷◌, ◌++◌, append_assoc, refl, sym, ap, ◌∙◌, arith, inl, inr, length}
use Rattle.std.proofs.lemmas.Bool.{cases_Bool}
use Rattle.std.proofs.lemmas.List.{append-nil}
use Rattle.std.specs.List.{list_any, list_all}
use Rattle.std.specs.Map.{keys_of}
use Rattle.std.specs.Prelude.{fold, if◌then◌else◌, nat_lt}
use Rattle.indexmap.specs.IndexMap.{insert_entry}
use Rattle.mdcc_base.specs.Counts.{number_of}
use Rattle.mdcc_base.specs.TxId.{tx_eq, tx_lt}
use Rattle.mdcc_base.specs.declared.identifiers.TxId.{TxId}
use Rattle.mdcc_option.specs.declared.choices.Choice.{Choice}
use Rattle.mdcc_def_ledger.specs.Ledger.{Added, Begun, Entry, Valued, txs_begun, with_tx}
use Rattle.mdcc_struct.proofs.Order.{tx_eq-sym, tx_lt-apart_back, tx_lt-other, tx_lt-trans}
use Rattle.mdcc_struct.proofs.Ordered.{IsBelow, ascending-below, ascending-tail}
use Rattle.mdcc_struct.specs.Maps.{TxMap, are_ascending, txs_of}

-- how many more there are with one that may be there
abbrev more : (TxId → Bool) → Bool → TxId → ℕ
more test there tx = if there then 0 else (if test tx then 1 else 0)

-- a key that is inserted counts where it was not there
pub number_of-inserted : {X : Type 0} (test : TxId → Bool) (es : List (TxId × X)) (k : TxId) (x : X)
    → number_of test (keys_of (insert_entry tx_eq es k x)) ≡ number_of test (keys_of es) + more test (list_any (tx_eq k) (keys_of es)) k
number_of-inserted test [] k x = omega arith
number_of-inserted test (e ∷ es) k x =
    let ih = number_of-inserted test es k x in
    elim (cases_Bool (tx_eq k e.0)) [
      | inl same ↦ rw same (omega arith)
      | inr other ↦ rw other (rw ih (omega arith))
    ]

-- ---- ascending transactions

abbrev are_above : TxId → List TxId → Bool
are_above tx [] = true
are_above tx (x ∷ xs) = tx_lt tx x && are_above tx xs

abbrev are_ordered : List TxId → Bool
are_ordered [] = true
are_ordered (x ∷ xs) = are_above x xs && are_ordered xs

and_first : (a b : Bool) → (a && b) ≡ true → a ≡ true
and_first true b h = refl
and_first false b h = absurd (cc)

and_second : (a b : Bool) → (a && b) ≡ true → b ≡ true
and_second true b h = h
and_second false b h = absurd (cc)

and_both : (a b : Bool) → a ≡ true → b ≡ true → (a && b) ≡ true
and_both a b ha hb = rw (ha, hb) refl

above-all : (s t : TxId) (xs : List TxId) → tx_lt s t ≡ true → are_above t xs ≡ true → are_above s xs ≡ true
above-all s t [] below h = refl
above-all s t (x ∷ xs) below h =
    and_both _ _ (tx_lt-trans s t x below (and_first _ _ h)) (above-all s t xs below (and_second _ _ h))

above-with_tx : (s tx : TxId) (xs : List TxId) → tx_lt s tx ≡ true → are_above s xs ≡ true → are_above s (with_tx xs tx) ≡ true
above-with_tx s tx [] below h = rw below refl
above-with_tx s tx (x ∷ xs) below h =
    elim (cases_Bool (tx_lt x tx)) [
      | inl e ↦ rw e (and_both _ _ (and_first _ _ h) (above-with_tx s tx xs below (and_second _ _ h)))
      | inr e ↦ rw e (elim (cases_Bool (tx_eq x tx)) [
        | inl f ↦ rw f h
        | inr f ↦ rw f (and_both _ _ below h)
      ])
    ]

pub ordered-with_tx : (xs : List TxId) (tx : TxId) → are_ordered xs ≡ true → are_ordered (with_tx xs tx) ≡ true
ordered-with_tx [] tx h = refl
ordered-with_tx (x ∷ xs) tx h =
    elim (cases_Bool (tx_lt x tx)) [
      | inl e ↦ rw e (and_both _ _ (above-with_tx x tx xs e (and_first _ _ h)) (ordered-with_tx xs tx (and_second _ _ h)))
      | inr e ↦ rw e (elim (cases_Bool (tx_eq x tx)) [
        | inl f ↦ rw f h
        | inr f ↦
            let before : tx_lt tx x ≡ true = tx_lt-other x tx e f in
            rw f (and_both _ _ (and_both _ _ before (above-all tx x xs before (and_first _ _ h))) h)
      ])
    ]

pub ordered-begun : (entries : List Entry) → are_ordered (txs_begun entries) ≡ true
ordered-begun [] = refl
ordered-begun (Begun a tx choices ∷ entries) = ordered-with_tx (txs_begun entries) tx (ordered-begun entries)
ordered-begun (Added a fact ∷ entries) = ordered-begun entries
ordered-begun (Valued a key version ballot options ∷ entries) = ordered-begun entries

above-absent : (tx : TxId) (xs : List TxId) → are_above tx xs ≡ true → list_any (tx_eq tx) xs ≡ false
above-absent tx [] h = refl
above-absent tx (x ∷ xs) h =
    let apart : tx_eq tx x ≡ false = tx_eq-sym tx x ∙ tx_lt-apart_back tx x (and_first _ _ h) in
    rw apart (above-absent tx xs (and_second _ _ h))

-- a transaction that is put in its place counts where it was not there
pub number_of-with_tx : (test : TxId → Bool) (xs : List TxId) (tx : TxId) → are_ordered xs ≡ true
    → number_of test (with_tx xs tx) ≡ number_of test xs + more test (list_any (tx_eq tx) xs) tx
number_of-with_tx test [] tx h = omega arith
number_of-with_tx test (x ∷ xs) tx h =
    elim (cases_Bool (tx_lt x tx)) [
      | inl e ↦
          let ih = number_of-with_tx test xs tx (and_second _ _ h) in
          let apart : tx_eq tx x ≡ false = tx_lt-apart_back x tx e in
          rw (e, apart) (rw ih (omega arith))
      | inr e ↦ rw e (elim (cases_Bool (tx_eq x tx)) [
        | inl f ↦
            let same : tx_eq tx x ≡ true = tx_eq-sym tx x ∙ f in
            rw (f, same) (omega arith)
        | inr f ↦
            let before : tx_lt tx x ≡ true = tx_lt-other x tx e f in
            let apart : tx_eq tx x ≡ false = tx_eq-sym tx x ∙ f in
            let absent : list_any (tx_eq tx) xs ≡ false = above-absent tx xs (above-all tx x xs before (and_first _ _ h)) in
            rw (f, apart, absent) (omega arith)
      ])
    ]

zero_add : (n : ℕ) → n ≡ 0 + n
zero_add n = omega arith

some-more : (b any : Bool) (n : ℕ) → any ≡ nat_lt 0 n → (b || any) ≡ nat_lt 0 ((if b then 1 else 0) + n)
some-more true any n h = grind arith
some-more false any n h = h ∙ ap (nat_lt 0) (zero_add n)

-- whether one passes a test, by how many do
pub some-number : (test : TxId → Bool) (xs : List TxId) → list_any test xs ≡ nat_lt 0 (number_of test xs)
some-number test [] = refl
some-number test (x ∷ xs) = some-more (test x) _ _ (some-number test xs)

-- as many pass a test among the keys of the map with one more as among the transactions of the ledger with one more
pub counts-begun : {X : Type 0} (es : List (TxId × X)) (entries : List Entry) (centre : ℕ) (tx : TxId) (choices : List Choice) (x : X)
    → ((test : TxId → Bool) → number_of test (keys_of es) ≡ number_of test (txs_begun entries))
    → (test : TxId → Bool) → number_of test (keys_of (insert_entry tx_eq es tx x)) ≡ number_of test (txs_begun (Begun centre tx choices ∷ entries))
counts-begun es entries centre tx choices x counts test =
    rw (
      number_of-inserted test es tx x,
      number_of-with_tx test (txs_begun entries) tx (ordered-begun entries),
      some-number (tx_eq tx) (keys_of es),
      some-number (tx_eq tx) (txs_begun entries),
      counts (tx_eq tx),
      counts test,
    ) refl

-- ---- the transactions of ascending marks

with_tx-behind : (xs : List TxId) (tx : TxId) → list_all (λ x. tx_lt x tx) xs ≡ true → with_tx xs tx ≡ xs ++ tx ∷ []
with_tx-behind [] tx h = refl
with_tx-behind (x ∷ xs) tx h = let first : tx_lt x tx ≡ true = and_first _ _ h in rw first (ap (λ ys. x ∷ ys) (with_tx-behind xs tx (and_second _ _ h)))

abbrev AllBelow : {X : Type 0} → List TxId → TxMap X → Type 0
AllBelow [] m = Unit {0}
AllBelow (x ∷ xs) m = IsBelow x m × AllBelow xs m

AllBelow-first : {X : Type 0} (xs : List TxId) (e : TxId × X) (es : TxMap X) → AllBelow xs (e ∷ es) → list_all (λ x. tx_lt x e.0) xs ≡ true
AllBelow-first [] e es h = refl
AllBelow-first (x ∷ xs) e es h = and_both _ _ h.0.0 (AllBelow-first xs e es h.1)

AllBelow-rest : {X : Type 0} (xs : List TxId) (e : TxId × X) (es : TxMap X) → AllBelow xs (e ∷ es) → AllBelow xs es
AllBelow-rest [] e es h = tt
AllBelow-rest (x ∷ xs) e es h = (h.0.1, AllBelow-rest xs e es h.1)

AllBelow-behind : {X : Type 0} (xs : List TxId) (tx : TxId) (m : TxMap X) → AllBelow xs m → IsBelow tx m → AllBelow (xs ++ tx ∷ []) m
AllBelow-behind [] tx m h below = (below, tt)
AllBelow-behind (x ∷ xs) tx m h below = (h.0, AllBelow-behind xs tx m h.1 below)

with_txs-behind : {X : Type 0} (xs : List TxId) (m : TxMap X) → AllBelow xs m → are_ascending m ≡ true → fold with_tx xs (txs_of m) ≡ xs ++ txs_of m
with_txs-behind xs [] h up = sym (append-nil xs)
with_txs-behind xs (e ∷ es) h up =
    ap (λ ys. fold with_tx ys (txs_of es)) (with_tx-behind xs e.0 (AllBelow-first xs e es h))
    ∙ (with_txs-behind (xs ++ e.0 ∷ []) es (AllBelow-behind xs e.0 es (AllBelow-rest xs e es h) (ascending-below e es up)) (ascending-tail e es up)
    ∙ append_assoc xs (e.0 ∷ []) (txs_of es))

-- they are in their places already
pub with_txs-ascending : {X : Type 0} (m : TxMap X) → are_ascending m ≡ true → fold with_tx [] (txs_of m) ≡ txs_of m
with_txs-ascending m up = with_txs-behind [] m tt up

-- a map has at most one key more after an insertion
pub keys-few : {X : Type 0} (es : List (TxId × X)) (k : TxId) (x : X) → length (keys_of (insert_entry tx_eq es k x)) ≤ length (keys_of es) + 1
keys-few [] k x = omega arith
keys-few (e ∷ es) k x =
    let ih = keys-few es k x in
    elim (cases_Bool (tx_eq k e.0)) [
      | inl same ↦ rw same (omega arith)
      | inr other ↦ rw other (omega (ih, arith))
    ]
