-- What is found in a map by transaction.
use Rattle.std.proofs.Common.{◌≡◌, ◌∙◌, ◌∷◌, true, false, [], refl, subst, inl, inr, Option, Some, None}
use Rattle.std.specs.Prelude.{is_some}
use Rattle.std.proofs.lemmas.Bool.{cases_Bool}
use Rattle.mdcc_base.specs.TxId.{tx_eq, tx_lt}
use Rattle.mdcc_base.specs.declared.identifiers.TxId.{TxId}
use Rattle.mdcc_struct.specs.Maps.{TxMap, inserted, union, value_of, with_entry}
pub use Rattle.mdcc_struct.proofs.Values.{value_of-inserted, value_of-union}
use Rattle.mdcc_theorem_trace_states.specs.Words.{Each}
use Rattle.mdcc_theorem_trace_states.proofs.Tests.{Decides-tx}

pub tx-refl : (t : TxId) → tx_eq t t ≡ true
tx-refl t = (Decides-tx t t).1 refl

pub tx-true : (t u : TxId) → tx_eq t u ≡ true → t ≡ u
tx-true t u h = (Decides-tx t u).0 h

pub is_some-some : {A : Type 0} (o : Option A) → is_some o ≡ true → (x : A) × (o ≡ Some x)
is_some-some None h = absurd (cc)
is_some-some (Some x) h = (x, refl)

pub is_some-none : {A : Type 0} (o : Option A) → is_some o ≡ false → o ≡ None
is_some-none None h = refl
is_some-none (Some x) h = absurd (cc)

-- what was found stays
pub union-keeps : {X : Type 0} (xs ys : TxMap X) (t : TxId) (x : X) → value_of xs t ≡ Some x → value_of (union xs ys) t ≡ Some x
union-keeps xs ys t x h = value_of-union xs ys t ∙ rw h refl

-- ---- maps with a property of each entry

pub each-inserted : {X : Type 0} (P : TxId × X → Type 0) (m : TxMap X) (e : TxId × X) → Each P m → P e → Each P (inserted m e)
each-inserted P [] e h g = (g, tt)
each-inserted P (x ∷ xs) e h g = elim (cases_Bool (tx_lt x.0 e.0)) [ inl a ↦ rw a (h.0, each-inserted P xs e h.1 g) | inr a ↦ rw a (g, h) ]

pub each-with : {X : Type 0} (P : TxId × X → Type 0) (m : TxMap X) (e : TxId × X) → Each P m → P e → Each P (with_entry m e)
each-with P m e h g = elim (cases_Bool (is_some (value_of m e.0))) [ inl a ↦ rw a h | inr a ↦ rw a (each-inserted P m e h g) ]

pub each-union : {X : Type 0} (P : TxId × X → Type 0) (xs ys : TxMap X) → Each P xs → Each P ys → Each P (union xs ys)
each-union P xs [] h g = h
each-union P xs (y ∷ ys) h g = each-union P (with_entry xs y) ys (each-with P xs y h g.0) g.1

pub each-value : {X : Type 0} (P : TxId → X → Type 0) (m : TxMap X) (t : TxId) (x : X) → Each (λ (e : TxId × X). P e.0 e.1) m → value_of m t ≡ Some x → P t x
each-value P [] t x h g = absurd (cc)
each-value P (e ∷ es) t x h g =
    elim (cases_Bool (tx_eq e.0 t)) [
      | inl i ↦ let s : Some e.1 ≡ Some x = rw i at g in let r : e.1 ≡ x = cc in subst (λ z. P z x) (tx-true e.0 t i) (subst (λ z. P e.0 z) r h.0)
      | inr i ↦ let s : value_of es t ≡ Some x = rw i at g in each-value P es t x h.1 s
    ]
