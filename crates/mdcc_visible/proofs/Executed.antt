-- The executed deltas of a key, one transaction after the other.
use Rattle.std.proofs.Common.{◌≡◌, ℕ, zero, suc, ◌+◌, ◌<◌, ◌≤◌, true, false, List, [], ◌∷◌, ◌++◌, Option, Some, None, get_or, length, length-append, append-nil, option_map, option_to_list, take, refl, sym, ap, ◌∙◌, arith}
use Rattle.mdcc_base.specs.TxId.{tx_eq, tx_lt}
use Rattle.mdcc_base.specs.declared.identifiers.TxId.{TxId}
use Rattle.mdcc_base.specs.declared.key.Key.{Key}
use Rattle.mdcc_option.specs.declared.items.Delta.{Delta}
use Rattle.mdcc_struct.proofs.Order.{tx_eq-refl, tx_lt-apart}
use Rattle.mdcc_struct.proofs.Ordered.{IsBelow, ascending-below, ascending-tail}
use Rattle.mdcc_struct.proofs.Walks.{ascending-union}
use Rattle.mdcc_struct.specs.Maps.{TxMap, are_ascending, txs_of, value_of}
use Rattle.mdcc_def_protocol.specs.Facts.{current_of, deltas_at, deltas_from, executed_of}
use Rattle.mdcc_def_protocol.specs.Marks.{Amounts}
use Rattle.mdcc_def_protocol.specs.Stores.{delta_of}
use Rattle.mdcc_def_messages.specs.declared.facts.Fact.{Fact}
use Rattle.mdcc_visible.specs.Deltas.{delta_in, deltas_of_map}

ascending-deltas : (facts : List Fact) (key : Key) (version : ℕ) → are_ascending (deltas_at facts key version) ≡ true
ascending-deltas [] key version = refl
ascending-deltas (fact ∷ facts) key version =
    ascending-union (deltas_at facts key version) (deltas_from key version fact) (ascending-deltas facts key version)

ascending-executed : (facts : List Fact) (key : Key) → are_ascending (executed_of facts key) ≡ true
ascending-executed facts key = ascending-deltas facts key (current_of facts key)

below-at : {X : Type 0} (tx : TxId) (m : TxMap X) (i : ℕ) (d : TxId) → IsBelow tx m → i < length (txs_of m) → tx_lt tx (get_or (txs_of m) i d) ≡ true
below-at tx [] i d h k = absurd (omega arith)
below-at tx (e ∷ es) zero d h k = h.0
below-at tx (e ∷ es) (suc i) d h k = below-at tx es i d h.1 (omega arith)

-- the delta of the transaction at a place is the next one
pub next_delta : (m : TxMap Amounts) (i : ℕ) (tx d : TxId) → are_ascending m ≡ true → i < length (txs_of m) → tx ≡ get_or (txs_of m) i d
    → take (i + 1) (deltas_of_map m) ≡ take i (deltas_of_map m) ++ option_to_list (option_map (λ amounts. delta_in (tx, amounts)) (value_of m tx))
next_delta [] i tx d h k e = absurd (omega arith)
next_delta (x ∷ xs) zero tx d h k e = rw (e, tx_eq-refl x.0) refl
next_delta (x ∷ xs) (suc i) tx d h k e =
    let apart : tx_eq x.0 tx ≡ false = rw e (tx_lt-apart x.0 _ (below-at x.0 xs i d (ascending-below x xs h) (omega arith))) in
    let rest = next_delta xs i tx d (ascending-tail x xs h) (omega arith) e in
    let step : suc i + 1 ≡ suc (i + 1) = omega arith in
    rw (step, apart) (ap (λ ds. delta_in x ∷ ds) rest)

-- the same, as a store answers them
pub next_executed : (facts : List Fact) (key : Key) (seen : List TxId) (i : ℕ) (tx d : TxId) → seen ≡ txs_of (executed_of facts key) → i < length seen → tx ≡ get_or seen i d
    → take (i + 1) (deltas_of_map (executed_of facts key)) ≡ take i (deltas_of_map (executed_of facts key)) ++ option_to_list (delta_of facts key tx)
next_executed facts key seen i tx d same within is =
    next_delta (executed_of facts key) i tx d (ascending-executed facts key) (rw (← same) within) (is ∙ rw same refl)

-- ---- one step of the list

pub length-pushed : (made before : List Delta) (delta : Delta) (i : ℕ) → made ≡ before ++ delta ∷ [] → length before ≤ i → length made ≤ i + 1
length-pushed made before delta i e h = rw e (let all : length (before ++ delta ∷ []) ≡ length before + 1 = length-append before (delta ∷ []) in omega arith)

pub length-kept : (made before : List Delta) (i : ℕ) → made ≡ before → length before ≤ i → length made ≤ i + 1
length-kept made before i e h = rw e (omega arith)

-- the deltas with one more that there may be
pub step_pushed : (made before : List Delta) (delta : Delta) (found : Option Delta) (old new : List Delta)
    → made ≡ before ++ delta ∷ [] → before ≡ old → new ≡ old ++ option_to_list found → found ≡ Some delta → made ≡ new
step_pushed made before delta found old new pushed known next is = pushed ∙ rw (known, next, is) refl

pub step_kept : (made before : List Delta) (found : Option Delta) (old new : List Delta)
    → made ≡ before → before ≡ old → new ≡ old ++ option_to_list found → found ≡ None → made ≡ new
step_kept made before found old new kept known next is = kept ∙ known ∙ sym (next ∙ rw is (append-nil old))
