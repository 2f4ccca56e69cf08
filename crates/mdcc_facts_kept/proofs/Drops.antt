-- A list from an index on, with the item there and without it.
use Rattle.std.proofs.Common.{◌≡◌, ◌≤◌, ◌+◌, ◌++◌, ◌∷◌, ◌∙◌, ℕ, zero, suc, Bool, true, false, List, [], Some, drop, length, refl, ap, sym, arith}
use Rattle.std.specs.List.{list_all, list_any}
use Rattle.std.specs.Prelude.{filter, if◌then◌else◌, slice_get, ◌&&◌, ◌||◌}
use Rattle.mdcc_base.specs.Counts.{number_of}
use Rattle.mdcc_facts.proofs.Walking.{drop_next}

module _ {X : Type 0} (test : X → Bool) (xs : List X) (i : ℕ) (x : X) (at : slice_get xs i ≡ Some x) where
  pub any-here : test x ≡ true → list_any test (drop i xs) ≡ true
  any-here is = ap (list_any test) (drop_next xs i x at) ∙ ap (λ b. b || list_any test (drop (i + 1) xs)) is

  pub any-later : test x ≡ false → list_any test (drop (i + 1) xs) ≡ list_any test (drop i xs)
  any-later is = sym (ap (list_any test) (drop_next xs i x at) ∙ ap (λ b. b || list_any test (drop (i + 1) xs)) is)

  pub all-fails : test x ≡ false → list_all test (drop i xs) ≡ false
  all-fails is = ap (list_all test) (drop_next xs i x at) ∙ ap (λ b. b && list_all test (drop (i + 1) xs)) is

  pub all-later : test x ≡ true → list_all test (drop (i + 1) xs) ≡ list_all test (drop i xs)
  all-later is = sym (ap (list_all test) (drop_next xs i x at) ∙ ap (λ b. b && list_all test (drop (i + 1) xs)) is)

  pub number-here : number_of test (drop i xs) ≡ (if test x then 1 else 0) + number_of test (drop (i + 1) xs)
  number-here = ap (number_of test) (drop_next xs i x at)

  pub filter-here : test x ≡ true → filter test (drop i xs) ≡ x ∷ filter test (drop (i + 1) xs)
  filter-here is = ap (filter test) (drop_next xs i x at) ∙ ap (λ (b : Bool). if b then x ∷ filter test (drop (i + 1) xs) else filter test (drop (i + 1) xs)) is

  pub filter-later : test x ≡ false → filter test (drop i xs) ≡ filter test (drop (i + 1) xs)
  filter-later is = ap (filter test) (drop_next xs i x at) ∙ ap (λ (b : Bool). if b then x ∷ filter test (drop (i + 1) xs) else filter test (drop (i + 1) xs)) is

pub drop-end : {X : Type 0} (xs : List X) (n : ℕ) → length xs ≤ n → drop n xs ≡ []
drop-end [] zero h = refl
drop-end [] (suc n) h = refl
drop-end (x ∷ xs) zero h = absurd (omega (arith, h))
drop-end (x ∷ xs) (suc n) h = drop-end xs n (omega (arith, h))

-- one more behind the others
pub behind : {X : Type 0} (xs ys : List X) (x : X) → (xs ++ x ∷ []) ++ ys ≡ xs ++ x ∷ ys
behind [] ys x = refl
behind (y ∷ xs) ys x = ap (λ zs. y ∷ zs) (behind xs ys x)
