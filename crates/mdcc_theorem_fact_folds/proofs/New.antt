-- Sums over what facts bring are sums over what each fact brings first, in whatever order.
use Rattle.std.proofs.Common.{◌≡◌, ℕ, ◌+◌, Bool, true, false, List, [], ◌∷◌, ◌++◌, Option, Some, None, is_some, length, refl, sym, ap, ◌∙◌, arith, inl, inr, add-zero, zero-add}
use Rattle.std.specs.Prelude.{filter, if◌then◌else◌}
use Rattle.std.proofs.lemmas.Bool.{cases_Bool}
use Rattle.mdcc_base.specs.Counts.{number_of, sum_over}
use Rattle.mdcc_base.specs.TxId.{tx_lt}
use Rattle.mdcc_base.specs.declared.identifiers.TxId.{TxId}
use Rattle.mdcc_struct.specs.Maps.{TxMap, are_ascending, inserted, union, value_of}
use Rattle.mdcc_struct.proofs.Order.{tx_lt-apart}
use Rattle.mdcc_struct.proofs.Ordered.{IsBelow, ascending-below, ascending-tail}
use Rattle.mdcc_struct.proofs.Values.{value_of-inserted}
use Rattle.mdcc_def_messages.specs.declared.facts.Fact.{Fact}
use Rattle.mdcc_theorem_fact_folds.specs.New.{entries_beside, new_entries}

-- ---- sums

abbrev pub weight_if : {X : Type 0} → (X → Bool) → (X → ℕ) → X → ℕ
weight_if p w x = if p x then w x else 0

abbrev pub one_if : {X : Type 0} → (X → Bool) → X → ℕ
one_if p x = if p x then 1 else 0

pub sum-kept : {X : Type 0} (p : X → Bool) (w : X → ℕ) (xs : List X) → sum_over w (filter p xs) ≡ sum_over (weight_if p w) xs
sum-kept p w [] = refl
sum-kept p w (x ∷ xs) =
    let ih = sum-kept p w xs in
    elim (cases_Bool (p x)) [
      | inl kept ↦ rw kept (ap (λ n. w x + n) ih)
      | inr left ↦ rw left (ih ∙ sym (zero-add (sum_over (weight_if p w) xs)))
    ]

pub number-sum : {X : Type 0} (p : X → Bool) (xs : List X) → number_of p xs ≡ sum_over (one_if p) xs
number-sum p [] = refl
number-sum p (x ∷ xs) = ap (λ n. (if p x then 1 else 0) + n) (number-sum p xs)

pub length-number : {X : Type 0} (p : X → Bool) (xs : List X) → length (filter p xs) ≡ number_of p xs
length-number p [] = refl
length-number p (x ∷ xs) =
    let ih = length-number p xs in
    elim (cases_Bool (p x)) [
      | inl kept ↦ rw kept (omega (arith, ih))
      | inr left ↦ rw left (omega (arith, ih))
    ]

pub sum-append : {X : Type 0} (w : X → ℕ) (xs ys : List X) → sum_over w (xs ++ ys) ≡ sum_over w xs + sum_over w ys
sum-append w [] ys = sym (zero-add (sum_over w ys))
sum-append w (x ∷ xs) ys = let ih = sum-append w xs ys in omega (arith, ih)

-- ---- a union

module _ {X : Type 0} (w : TxId × X → ℕ) where
  sum-inserted : (m : TxMap X) (e : TxId × X) → sum_over w (inserted m e) ≡ w e + sum_over w m
  sum-inserted [] e = refl
  sum-inserted (x ∷ xs) e =
      let ih = sum-inserted xs e in
      elim (cases_Bool (tx_lt x.0 e.0)) [
        | inl less ↦ rw less (omega (arith, ih))
        | inr over ↦ rw over refl
      ]

  pub sum-union : (m n : TxMap X) → sum_over w (union m n) ≡ sum_over w m + sum_over w (new_entries m n)
  sum-union m [] = sym (add-zero (sum_over w m))
  sum-union m (e ∷ es) =
      elim (cases_Bool (is_some (value_of m e.0))) [
        | inl there ↦ rw there (sum-union m es)
        | inr none ↦
            let ih = sum-union (inserted m e) es in
            let more = sum-inserted m e in
            rw none (omega (arith, ih, more))
      ]

-- what each fact brings that no older one does; all is what all facts bring
abbrev pub firsts : {X : Type 0} → (List Fact → TxMap X) → (Fact → TxMap X) → List Fact → TxMap X
firsts all brings [] = []
firsts all brings (fact ∷ older) = new_entries (all older) (brings fact) ++ firsts all brings older

pub sum-firsts : {X : Type 0} (all : List Fact → TxMap X) (brings : Fact → TxMap X)
    → all [] ≡ [] → ((fact : Fact) (facts : List Fact) → all (fact ∷ facts) ≡ union (all facts) (brings fact))
    → (w : TxId × X → ℕ) (facts : List Fact) → sum_over w (all facts) ≡ sum_over w (firsts all brings facts)
sum-firsts all brings none more w [] = ap (sum_over w) none
sum-firsts all brings none more w (fact ∷ facts) =
    let ih = sum-firsts all brings none more w facts in
    let new = sum-union w (all facts) (brings fact) in
    let both = sum-append w (new_entries (all facts) (brings fact)) (firsts all brings facts) in
    ap (sum_over w) (more fact facts) ∙ omega (arith, ih, new, both)

-- ---- new entries of ascending maps

pub none_found : {X : Type 0} (o : Option X) → is_some o ≡ false → o ≡ None
none_found None h = refl
none_found (Some x) h = absurd (cc)

beside-inserted : {X : Type 0} (m : TxMap X) (e : TxId × X) (es : TxMap X) → is_some (value_of m e.0) ≡ false → IsBelow e.0 es
    → entries_beside (inserted m e) es ≡ entries_beside m es
beside-inserted m e [] none below = refl
beside-inserted m e (x ∷ xs) none below =
    let ih = beside-inserted m e xs none below.1 in
    let here : value_of (inserted m e) x.0 ≡ value_of m x.0 =
    value_of-inserted m e x.0 (none_found (value_of m e.0) none) ∙ rw (tx_lt-apart e.0 x.0 below.0) refl in
    elim (cases_Bool (is_some (value_of m x.0))) [
      | inl there ↦ rw (here, there) ih
      | inr new ↦ rw (here, new) (ap (λ ys. x ∷ ys) ih)
    ]

pub new-beside : {X : Type 0} (m es : TxMap X) → are_ascending es ≡ true → new_entries m es ≡ entries_beside m es
new-beside m [] up = refl
new-beside m (e ∷ es) up =
    elim (cases_Bool (is_some (value_of m e.0))) [
      | inl there ↦ rw there (new-beside m es (ascending-tail e es up))
      | inr none ↦ rw none (ap (λ ys. e ∷ ys) (new-beside (inserted m e) es (ascending-tail e es up) ∙ beside-inserted m e es none (ascending-below e es up)))
    ]
