-- The entries of a list that are not gone, one after the other.
use Rattle.std.proofs.Common.{◌≡◌, ◌∷◌, ◌+◌, ◌∙◌, ℕ, zero, suc, Bool, true, false, List, [], Option, Some, None, length, drop, add-one, refl, sym, ap, inl, inr}
use Rattle.std.specs.Option.{option_and_then}
use Rattle.std.specs.Prelude.{filter, if◌then◌else◌, not, slice_get}
use Rattle.std.proofs.lemmas.Bool.{cases_Bool}
use Rattle.mdcc_facts.proofs.Walking.{drop_next}

module _ {X : Type 0} (gone : X → Bool) (xs : List X) (at : ℕ) where
  abbrev kept : List X → List X
  kept ys = filter (λ x. not (gone x)) ys

  abbrev unless_gone : X → Option X
  unless_gone x = if gone x then None else Some x

  drop-past : (ys : List X) (n : ℕ) → slice_get ys n ≡ None → drop n ys ≡ drop (suc n) ys
  drop-past [] zero is = refl
  drop-past [] (suc n) is = refl
  drop-past (y ∷ ys) zero is = absurd (cc)
  drop-past (y ∷ ys) (suc n) is = drop-past ys n is

  there : (x : X) → slice_get xs at ≡ Some x → (gone x ≡ true → kept (drop at xs) ≡ kept (drop (at + 1) xs)) × (gone x ≡ false → kept (drop at xs) ≡ x ∷ kept (drop (at + 1) xs))
  there x is =
      let next = drop_next xs at x is in
      (λ h. ap kept next ∙ (rw h refl), λ h. ap kept next ∙ (rw h refl))

  pub one-passed : option_and_then unless_gone (slice_get xs at) ≡ None → kept (drop at xs) ≡ kept (drop (at + 1) xs)
  one-passed none = by (slice_get xs at) refl
    where
      by : (o : Option X) → slice_get xs at ≡ o → kept (drop at xs) ≡ kept (drop (at + 1) xs)
      by None is = ap kept (drop-past xs at is ∙ ap (λ n. drop n xs) (sym (add-one at)))
      by (Some x) is = elim (cases_Bool (gone x)) [
        | inl h ↦ (there x is).0 h
        | inr h ↦ absurd (let bad : Some x ≡ None = sym (ap (λ (b : Bool). if b then None else Some x) h) ∙ sym (ap (option_and_then unless_gone) is) ∙ none in cc)
      ]

  pub one-kept : (x : X) → option_and_then unless_gone (slice_get xs at) ≡ Some x → kept (drop at xs) ≡ x ∷ kept (drop (at + 1) xs)
  one-kept x some = by (slice_get xs at) refl
    where
      by : (o : Option X) → slice_get xs at ≡ o → kept (drop at xs) ≡ x ∷ kept (drop (at + 1) xs)
      by None is = absurd (let bad : None ≡ Some x = sym (ap (option_and_then unless_gone) is) ∙ some in cc)
      by (Some y) is = elim (cases_Bool (gone y)) [
        | inl h ↦ absurd (let bad : None ≡ Some x = sym (ap (λ (b : Bool). if b then None else Some y) h) ∙ sym (ap (option_and_then unless_gone) is) ∙ some in cc)
        | inr h ↦
            let same : Some y ≡ Some x = sym (ap (λ (b : Bool). if b then None else Some y) h) ∙ sym (ap (option_and_then unless_gone) is) ∙ some in
            let one : y ≡ x = cc in
            (there y is).1 h ∙ ap (λ z. z ∷ kept (drop (at + 1) xs)) one
      ]

pub drop-all : {X : Type 0} (xs : List X) → drop (length xs) xs ≡ []
drop-all [] = refl
drop-all (x ∷ xs) = drop-all xs
