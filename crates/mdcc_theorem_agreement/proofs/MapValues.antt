-- Tests of transactions, and maps in which none stands twice.
use Rattle.std.proofs.Common.{◌≡◌, ℕ, true, false, cond, List, [], ◌∷◌, refl, sym, ap, ◌∙◌, inl, inr, Option, Some, None}
use Rattle.std.proofs.lemmas.Bool.{cases_Bool, false≢true}
use Rattle.std.specs.Option.{option_or}
use Rattle.mdcc_base.specs.Counts.{sum_over}
use Rattle.mdcc_base.specs.TxId.{tx_eq, tx_lt}
use Rattle.mdcc_base.specs.declared.identifiers.TxId.{TxId}
use Rattle.mdcc_option.specs.declared.choices.Mark.{Mark}
use Rattle.mdcc_struct.specs.Maps.{TxMap, value_of, inserted, with_entry, union}
use Rattle.mdcc_struct.proofs.Order.{tx_eq-sym}
use Rattle.mdcc_struct.proofs.Values.{value_of-inserted}
use Rattle.mdcc_theorem_agreement.proofs.ReducedOptions.{mark_of, Distinct}
use Rattle.mdcc_theorem_agreement.proofs.TestsDecide.{Decides-tx}
use Rattle.mdcc_theorem_agreement.proofs.Totals.{total}

pub tx_true : (t u : TxId) → t ≡ u → tx_eq t u ≡ true
tx_true t u h = (Decides-tx t u).1 h

pub tx_ne : (t u : TxId) → tx_eq t u ≡ false → t ≡ u → ⊥
tx_ne t u e same = false≢true (sym e ∙ (Decides-tx t u).1 same)

pub tx_sym : (t u : TxId) → tx_eq t u ≡ tx_eq u t
tx_sym t u = tx_eq-sym t u

pub mark_value : (t : TxId) (ps : List (TxId × Mark)) → mark_of t ps ≡ value_of ps t
mark_value t [] = refl
mark_value t (p ∷ ps) = rw (tx_sym t p.0, mark_value t ps) refl

pub total_sum : {A : Type 0} (f : A → ℕ) (xs : List A) → total f xs ≡ sum_over f xs
total_sum f [] = refl
total_sum f (x ∷ xs) = rw (total_sum f xs) refl

pub or_none : {X : Type 0} (o : Option X) → option_or o None ≡ o
or_none None = refl
or_none (Some y) = refl

-- no transaction stands twice
abbrev pub Once : {X : Type 0} → TxMap X → Type 0
Once [] = Unit {0}
Once (e ∷ es) = (value_of es e.0 ≡ None) × Once es

pub Once-Distinct : (ps : List (TxId × Mark)) → Once ps → Distinct ps
Once-Distinct [] h = tt
Once-Distinct (p ∷ ps) h = (mark_value p.0 ps ∙ h.0, Once-Distinct ps h.1)

pub Once-inserted : {X : Type 0} (m : TxMap X) (e : TxId × X) → value_of m e.0 ≡ None → Once m → Once (inserted m e)
Once-inserted [] e none h = (refl, tt)
Once-inserted {X = X} (x ∷ xs) e none h =
    let other : tx_eq x.0 e.0 ≡ false = elim (cases_Bool (tx_eq x.0 e.0)) [
      | inl g ↦ let bad : Some x.1 ≡ None = rw g at none in absurd (cc)
      | inr g ↦ g
    ] in
    let rest : value_of xs e.0 ≡ None = rw other at none in
    elim (cases_Bool (tx_lt x.0 e.0)) [
      | inl less ↦ rw less (
        value_of-inserted xs e x.0 rest ∙ ap (λ b. cond b (Some e.1) (value_of xs x.0)) (tx_sym e.0 x.0 ∙ other) ∙ h.0,
        Once-inserted xs e rest h.1,
      )
      | inr over ↦ rw over (none, h)
    ]

pub Once-with_entry : {X : Type 0} (m : TxMap X) (e : TxId × X) → Once m → Once (with_entry m e)
Once-with_entry {X = X} m e h = go (value_of m e.0) refl
  where
    go : (o : Option X) → value_of m e.0 ≡ o → Once (with_entry m e)
    go None none = rw none (Once-inserted m e none h)
    go (Some y) there = rw there h

pub Once-union : {X : Type 0} (xs ys : TxMap X) → Once xs → Once (union xs ys)
Once-union xs [] h = h
Once-union xs (y ∷ ys) h = Once-union (with_entry xs y) ys (Once-with_entry xs y h)
