-- A mark of a later transaction goes to the end.
use Rattle.std.proofs.Common.{◌≡◌, true, [], ◌∷◌, ◌++◌, Option, Some, None, refl, ap}
use Rattle.std.proofs.lemmas.Bool.{and_parts}
use Rattle.mdcc_base.specs.declared.identifiers.TxId.{TxId}
use Rattle.mdcc_base.specs.TxId.{tx_lt}
use Rattle.mdcc_struct.specs.Maps.{TxMap, value_of, inserted, are_ascending}
use Rattle.mdcc_struct.proofs.Order.{tx_lt-apart}
use Rattle.mdcc_struct.proofs.Ordered.{IsBelow, ascending-below, ascending-tail}
use Rattle.mdcc_def_messages.specs.ReadingSteps.{is_after}

below-last : {X : Type 0} (t : TxId) (m : TxMap X) (e : TxId × X) → IsBelow t (m ++ e ∷ []) → tx_lt t e.0 ≡ true
below-last t [] e h = h.0
below-last t (x ∷ xs) e h = below-last t xs e h.1

pub value_of-end : {X : Type 0} (m : TxMap X) (e : TxId × X) → are_ascending (m ++ e ∷ []) ≡ true → value_of m e.0 ≡ None
value_of-end [] e h = refl
value_of-end (x ∷ xs) e h =
    let below = below-last x.0 xs e (ascending-below x (xs ++ e ∷ []) h) in
    rw (tx_lt-apart x.0 e.0 below) (value_of-end xs e (ascending-tail x (xs ++ e ∷ []) h))

pub inserted-end : {X : Type 0} (m : TxMap X) (e : TxId × X) → are_ascending (m ++ e ∷ []) ≡ true → inserted m e ≡ m ++ e ∷ []
inserted-end [] e h = refl
inserted-end (x ∷ xs) e h =
    let below = below-last x.0 xs e (ascending-below x (xs ++ e ∷ []) h) in
    rw below (ap (λ ys. x ∷ ys) (inserted-end xs e (ascending-tail x (xs ++ e ∷ []) h)))

-- what may stand behind the last one may stand at the end
abbrev pub MayFollow : {X : Type 0} → TxMap X → Option TxId → Type 0
MayFollow {X = X} m last = (e : TxId × X) → is_after tx_lt last e.0 ≡ true → are_ascending (m ++ e ∷ []) ≡ true

ascending-two : {X : Type 0} (m : TxMap X) (e f : TxId × X) → are_ascending (m ++ e ∷ []) ≡ true → tx_lt e.0 f.0 ≡ true
    → are_ascending ((m ++ e ∷ []) ++ f ∷ []) ≡ true
ascending-two [] e f h less = rw less refl
ascending-two (x ∷ []) e f h less = rw (ascending-two [] e f refl less, h) refl
ascending-two (x ∷ y ∷ ys) e f h less =
    let parts = and_parts (tx_lt x.0 y.0) (are_ascending (y ∷ (ys ++ e ∷ []))) h in
    rw (parts.0, ascending-two (y ∷ ys) e f parts.1 less) refl

pub MayFollow-none : {X : Type 0} → MayFollow {X = X} [] None
MayFollow-none e h = refl

pub MayFollow-next : {X : Type 0} (m : TxMap X) (last : Option TxId) (e : TxId × X) → MayFollow m last → is_after tx_lt last e.0 ≡ true
    → MayFollow (m ++ e ∷ []) (Some e.0)
MayFollow-next m last e h after f less = ascending-two m e f (h e after) less
