-- What a test of some element finds.
use Rattle.std.proofs.Common.{◌≡◌, Bool, true, List, [], ◌∷◌, inl, inr}
use Rattle.std.specs.List.{AllByRecursion, list_any}
use Rattle.std.proofs.lemmas.Bool.{or_cases}

pub found : {X : Type 0} (test : X → Bool) (xs : List X) → list_any test xs ≡ true → (x : X) × (test x ≡ true)
found test [] h = absurd cc
found test (x ∷ xs) h =
    elim (or_cases (test x) (list_any test xs) h) [
      | inl here ↦ (x, here)
      | inr there ↦ found test xs there
    ]

-- and what holds of each element holds of that one
pub found_with : {X : Type 0} (P : X → Type 0) (test : X → Bool) (xs : List X) → AllByRecursion P xs → list_any test xs ≡ true
    → (x : X) × P x × (test x ≡ true)
found_with P test [] each h = absurd cc
found_with P test (x ∷ xs) each h =
    elim (or_cases (test x) (list_any test xs) h) [
      | inl here ↦ (x, each.0, here)
      | inr there ↦ found_with P test xs each.1 there
    ]
