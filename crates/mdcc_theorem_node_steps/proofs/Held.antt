-- What holds of a value where there is one, and of each entry of a map.
use Rattle.std.proofs.Common.{◌≡◌, ◌+◌, ◌≤◌, List, [], ◌∷◌, length, refl, subst, Option, Some, None, is_some, filter_map, arith}
use Rattle.std.specs.List.{AllByRecursion}
use Rattle.std.specs.Option.{option_or}
use Rattle.std.specs.Prelude.{option_and_then, option_map}
use Rattle.std.proofs.lemmas.Bool.{cond_both}
use Rattle.mdcc_base.specs.TxId.{tx_eq, tx_lt}
use Rattle.mdcc_base.specs.declared.identifiers.TxId.{TxId}
use Rattle.mdcc_option.proofs.Equal.{Decides-tx}
use Rattle.mdcc_struct.specs.Maps.{TxMap, inserted, union, value_of, with_entry}

abbrev pub HoldsIn : {X : Type 0} → (X → Type 0) → Option X → Type 0
HoldsIn P None = Unit {0}
HoldsIn P (Some x) = P x

pub holds-or : {X : Type 0} (P : X → Type 0) (a b : Option X) → HoldsIn P a → HoldsIn P b → HoldsIn P (option_or a b)
holds-or P None b h k = k
holds-or P (Some x) b h k = h

pub holds-map : {X Y : Type 0} (P : Y → Type 0) (f : X → Y) (o : Option X) → HoldsIn (λ x. P (f x)) o → HoldsIn P (option_map f o)
holds-map P f None h = tt
holds-map P f (Some x) h = h

pub holds-then : {X Y : Type 0} (P : X → Type 0) (Q : Y → Type 0) (f : X → Option Y) (o : Option X) → ((x : X) → P x → HoldsIn Q (f x)) → HoldsIn P o → HoldsIn Q (option_and_then f o)
holds-then P Q f None k h = tt
holds-then P Q f (Some x) k h = k x h

pub holds-weaker : {X : Type 0} (P Q : X → Type 0) (o : Option X) → ((x : X) → P x → Q x) → HoldsIn P o → HoldsIn Q o
holds-weaker P Q None f h = tt
holds-weaker P Q (Some x) f h = f x h

pub holds-at : {X : Type 0} (P : X → Type 0) (o : Option X) (x : X) → HoldsIn P o → o ≡ Some x → P x
holds-at P o x h e = rw e at h

pub each-filter_map : {X Y : Type 0} (P : X → Type 0) (Q : Y → Type 0) (f : X → Option Y) (xs : List X) → ((x : X) → P x → HoldsIn Q (f x))
    → AllByRecursion P xs → AllByRecursion Q (filter_map f xs)
each-filter_map P Q f [] k h = tt
each-filter_map {X = X} {Y = Y} P Q f (x ∷ xs) k h = by_value (f x) refl (k x h.0) (each-filter_map P Q f xs k h.1)
  where
    by_value : (o : Option Y) → f x ≡ o → HoldsIn Q o → AllByRecursion Q (filter_map f xs) → AllByRecursion Q (filter_map f (x ∷ xs))
    by_value None e g rest = rw e rest
    by_value (Some y) e g rest = rw e (g, rest)

-- ---- entries of a map

pub each-inserted : {X : Type 0} (P : TxId × X → Type 0) (m : TxMap X) (e : TxId × X) → AllByRecursion P m → P e → AllByRecursion P (inserted m e)
each-inserted P [] e h k = (k, tt)
each-inserted {X = X} P (x ∷ xs) e h k =
    cond_both (tx_lt x.0 e.0) (x ∷ inserted xs e) (e ∷ x ∷ xs) (λ (m : TxMap X). AllByRecursion P m) (λ less. (h.0, each-inserted P xs e h.1 k)) (λ over. (k, h))

pub each-with_entry : {X : Type 0} (P : TxId × X → Type 0) (m : TxMap X) (e : TxId × X) → AllByRecursion P m → P e → AllByRecursion P (with_entry m e)
each-with_entry {X = X} P m e h k =
    cond_both (is_some (value_of m e.0)) m (inserted m e) (λ (m : TxMap X). AllByRecursion P m) (λ there. h) (λ new. each-inserted P m e h k)

pub each-union : {X : Type 0} (P : TxId × X → Type 0) (xs ys : TxMap X) → AllByRecursion P xs → AllByRecursion P ys → AllByRecursion P (union xs ys)
each-union P xs [] h k = h
each-union P xs (y ∷ ys) h k = each-union P (with_entry xs y) ys (each-with_entry P xs y h k.0) k.1

pub value-in : {X : Type 0} (P : TxId → X → Type 0) (m : TxMap X) (tx : TxId) → AllByRecursion (λ e. P e.0 e.1) m → HoldsIn (P tx) (value_of m tx)
value-in P [] tx h = tt
value-in P (e ∷ es) tx h =
    cond_both (tx_eq e.0 tx) (Some e.1) (value_of es tx) (HoldsIn (P tx)) (λ same. subst (λ t. P t e.1) ((Decides-tx e.0 tx).0 same) h.0) (λ other. value-in P es tx h.1)

length-inserted : {X : Type 0} (m : TxMap X) (e : TxId × X) → length (inserted m e) ≤ length m + 1
length-inserted [] e = omega arith
length-inserted {X = X} (x ∷ xs) e =
    cond_both (tx_lt x.0 e.0) (x ∷ inserted xs e) (e ∷ x ∷ xs) (λ (m : TxMap X). length m ≤ length (x ∷ xs) + 1)
    (λ less. omega (arith, length-inserted xs e)) (λ over. omega arith)

length-with_entry : {X : Type 0} (m : TxMap X) (e : TxId × X) → length (with_entry m e) ≤ length m + 1
length-with_entry {X = X} m e =
    cond_both (is_some (value_of m e.0)) m (inserted m e) (λ (k : TxMap X). length k ≤ length m + 1) (λ there. omega arith) (λ new. length-inserted m e)

-- a union has no more entries than both
pub length-union : {X : Type 0} (xs ys : TxMap X) → length (union xs ys) ≤ length xs + length ys
length-union xs [] = omega arith
length-union xs (y ∷ ys) = omega (arith, length-union (with_entry xs y) ys, length-with_entry xs y)
