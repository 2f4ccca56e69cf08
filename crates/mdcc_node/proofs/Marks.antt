-- A mark put behind others in order.
use Rattle.std.proofs.Common.{◌≡◌, ◌∷◌, ◌++◌, [], ap, None, refl, true}
use Rattle.mdcc_base.specs.TxId.{tx_lt}
use Rattle.mdcc_base.specs.declared.identifiers.TxId.{TxId}
use Rattle.mdcc_struct.specs.Maps.{TxMap, are_ascending, inserted, value_of}
use Rattle.mdcc_struct.proofs.Order.{tx_lt-apart}
use Rattle.mdcc_struct.proofs.Ordered.{IsBelow, ascending-below, ascending-tail}

below-last : {X : Type 0} (tx : TxId) (m : TxMap X) (e : TxId × X) → IsBelow tx (m ++ e ∷ []) → tx_lt tx e.0 ≡ true
below-last tx [] e h = h.0
below-last tx (x ∷ xs) e h = below-last tx xs e h.1

pub value-last : {X : Type 0} (m : TxMap X) (e : TxId × X) → are_ascending (m ++ e ∷ []) ≡ true → value_of m e.0 ≡ None
value-last [] e h = refl
value-last (x ∷ xs) e h =
    rw (tx_lt-apart x.0 e.0 (below-last x.0 xs e (ascending-below x (xs ++ e ∷ []) h)))
    (value-last xs e (ascending-tail x (xs ++ e ∷ []) h))

pub inserted-last : {X : Type 0} (m : TxMap X) (e : TxId × X) → are_ascending (m ++ e ∷ []) ≡ true → inserted m e ≡ m ++ e ∷ []
inserted-last [] e h = refl
inserted-last (x ∷ xs) e h =
    rw (below-last x.0 xs e (ascending-below x (xs ++ e ∷ []) h))
    (ap (λ ys. x ∷ ys) (inserted-last xs e (ascending-tail x (xs ++ e ∷ []) h)))
