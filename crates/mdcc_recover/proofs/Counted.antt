-- What the counters of a map are after one is put, and after one is let go.
use Rattle.std.proofs.Common.{◌≡◌, ℕ, ◌+◌, ◌<◌, Bool, true, false, ◌&&◌, not, List, [], ◌∷◌, Some, None, refl, sym, ◌∙◌, arith, inl, inr, drop, fold, get_or, length, subst, take}
use Rattle.std.specs.List.{filter, list_all}
use Rattle.std.specs.Prelude.{if◌then◌else◌, unwrap_or}
use Rattle.std.proofs.lemmas.Bool.{cases_Bool}
use Rattle.std.proofs.lemmas.List.{drop_more}
use Rattle.std.proofs.lemmas.List.Folds.{list_all_more}
use Rattle.std.proofs.lemmas.List.Sums.{fold_more}
use Rattle.mdcc_base.specs.TxId.{tx_eq}
use Rattle.mdcc_base.specs.declared.identifiers.TxId.{TxId}
use Rattle.mdcc_base.specs.declared.key.Key.{Key}
use Rattle.mdcc_def_protocol.specs.Recover.{counted_tick}
use Rattle.mdcc_def_protocol.specs.Volatile.{next_count, with_counter}
use Rattle.mdcc_recover.specs.Counters.{AreCounters, Counters, counter_in}
use Rattle.mdcc_struct.proofs.Order.{tx_eq-same}
use Rattle.mdcc_struct.proofs.Values.{value_of-with_entry}
use Rattle.mdcc_struct.specs.Maps.{TxMap, value_of}

-- an entry that is let go
value_of-without : {X : Type 0} (m : TxMap X) (t tx : TxId)
    → value_of (filter (λ e. not (tx_eq e.0 t)) m) tx ≡ (if tx_eq t tx then None else value_of m tx)
value_of-without [] t tx = grind arith
value_of-without (e ∷ es) t tx = let ih = value_of-without es t tx in grind (arith, ih, tx_eq-same)

-- a counter that is put
value_of-counter : (m : TxMap ℕ) (e : TxId × ℕ) (tx : TxId) → value_of (with_counter m e) tx ≡ (if tx_eq e.0 tx then Some e.1 else value_of m tx)
value_of-counter m e tx =
    value_of-with_entry (filter (λ other. not (tx_eq other.0 e.0)) m) e tx
    ∙ rw (value_of-without m e.0 tx) (elim (cases_Bool (tx_eq e.0 tx)) [
      | inl same ↦ rw same refl
      | inr other ↦ rw other (grind arith)
    ])

-- what the counter of a transaction is after one is put, and after one is let go
count-put : (m : TxMap ℕ) (e : TxId × List (Key × ℕ)) (tx : TxId)
    → unwrap_or (value_of (counted_tick m e) tx) 0
    ≡ (if tx_eq e.0 tx then next_count (unwrap_or (value_of m e.0) 0) else unwrap_or (value_of m tx) 0)
count-put m e tx =
    rw (value_of-counter m (e.0, next_count (unwrap_or (value_of m e.0) 0)) tx) (elim (cases_Bool (tx_eq e.0 tx)) [
      | inl same ↦ rw same refl
      | inr other ↦ rw other refl
    ])

pub count-without : (m : TxMap ℕ) (t tx : TxId)
    → unwrap_or (value_of (filter (λ e. not (tx_eq e.0 t)) m) tx) 0 ≡ (if tx_eq t tx then 0 else unwrap_or (value_of m tx) 0)
count-without m t tx =
    rw (value_of-without m t tx) (elim (cases_Bool (tx_eq t tx)) [
      | inl same ↦ rw same refl
      | inr other ↦ rw other refl
    ])

-- all pass a further test that each which passes the first one passes
all-pass : {X : Type 0} (test more : X → Bool) (xs : List X) → ((x : X) → test x ≡ true → more x ≡ true) → list_all test xs ≡ true → list_all more xs ≡ true
all-pass test more [] passes h = refl
all-pass test more (x ∷ xs) passes h = let ih = all-pass test more xs passes in let here = passes x in grind (arith, ih, here)

-- of the first i + 1 elements, where the first i pass the first test and the next one passes the further one
pub all-more : {X : Type 0} (test more : X → Bool) (xs : List X) (i : ℕ) (x : X) → i < length xs → x ≡ get_or xs i x → ((x : X) → test x ≡ true → more x ≡ true)
    → list_all test (take i xs) ≡ true → more x ≡ true → list_all more (take (i + 1) xs) ≡ true
all-more test more xs i x within at passes h here =
    let next : more (get_or xs i x) ≡ true = rw (← at) here in
    rw (list_all_more more xs i x within, all-pass test more (take i xs) passes h, next) refl

-- of the elements after the first i + 1, where those after the first i pass the first test
pub all-rest : {X : Type 0} (test more : X → Bool) (xs : List X) (i : ℕ) (x : X) → i < length xs → ((x : X) → test x ≡ true → more x ≡ true)
    → list_all test (drop i xs) ≡ true → list_all more (drop (i + 1) xs) ≡ true
all-rest test more xs i x within passes h =
    let cons : list_all test (get_or xs i x ∷ drop (i + 1) xs) ≡ true = subst (λ ys. list_all test ys ≡ true) (drop_more xs i x within) h in
    all-pass test more (drop (i + 1) xs) passes (rest (test (get_or xs i x)) (list_all test (drop (i + 1) xs)) cons)
  where
    rest : (a b : Bool) → (a && b) ≡ true → b ≡ true
    rest true b h = h
    rest false b h = absurd (cc)

-- the counters after one is counted
pub counted-next : (old new : Counters) (m : TxMap ℕ) (e : TxId × List (Key × ℕ)) → AreCounters old m
    → ((tx : TxId) → counter_in new tx ≡ (if tx_eq e.0 tx then next_count (counter_in old e.0) else counter_in old tx))
    → AreCounters new (counted_tick m e)
counted-next old new m e are put tx = put tx ∙ rw (are e.0, are tx) (sym (count-put m e tx))

pub counted-more : (new : Counters) (m : TxMap ℕ) (txs : List (TxId × List (Key × ℕ))) (i : ℕ) (e : TxId × List (Key × ℕ)) → i < length txs → e ≡ get_or txs i e
    → AreCounters new (counted_tick (fold counted_tick m (take i txs)) e) → AreCounters new (fold counted_tick m (take (i + 1) txs))
counted-more new m txs i e within at are =
    let here : AreCounters new (counted_tick (fold counted_tick m (take i txs)) (get_or txs i e)) = rw (← at) are in
    rw (fold_more counted_tick m txs i e within) here
