-- The first element that passes, found by its index.
use Rattle.std.proofs.Common.{◌≡◌, inl, inr, ℕ, suc, zero, ◌+◌, ◌<◌, Bool, not, cond, List, [], ◌∷◌, length, find, position, remove, slice_get, slice_index_or, if◌then◌else◌, Some, None, sym, ◌∙◌, ap, refl, arith}
use Rattle.std.specs.List.{position_or_len}
use Rattle.std.proofs.lemmas.Grind.{common_steps}
use Rattle.std.proofs.lemmas.Bool.{cases_Bool}
use Rattle.std.proofs.lemmas.List.Folds.{find_at}
use Rattle.std.proofs.lemmas.Option.{slice_get_read}
use Rattle.mdcc_link.specs.Memory.{without_first}

pub removed_first : {X : Type 0} (test : X → Bool) (xs : List X) → remove xs (position_or_len test xs) ≡ without_first test xs
removed_first test [] = refl
removed_first {X} test (x ∷ xs) = elim (cases_Bool (test x)) [
  | inl passes ↦
      let here : position_or_len test (x ∷ xs) ≡ zero = ap (λ (b : Bool). cond (not b) (1 + position_or_len test xs) 0) passes in
      ap (λ (n : ℕ). remove (x ∷ xs) n) here ∙ ap (λ (b : Bool). if b then xs else x ∷ without_first test xs) (sym passes)
  | inr fails ↦
      let next : 1 + position_or_len test xs ≡ suc (position_or_len test xs) = omega arith in
      let later : position_or_len test (x ∷ xs) ≡ suc (position_or_len test xs) = ap (λ (b : Bool). cond (not b) (1 + position_or_len test xs) 0) fails ∙ next in
      ap (λ (n : ℕ). remove (x ∷ xs) n) later ∙ ap (λ (l : List X). x ∷ l) (removed_first test xs) ∙ ap (λ (b : Bool). if b then xs else x ∷ without_first test xs) (sym fails)
]

pub none_first : {X : Type 0} (test : X → Bool) (xs : List X) → position test xs ≡ None → (find test xs ≡ None) × (without_first test xs ≡ xs)
none_first test [] none = (refl, refl)
none_first test (x ∷ xs) none = elim (cases_Bool (test x)) [
  | inl passes ↦ absurd (grind (arith, common_steps, passes, none))
  | inr fails ↦
      let rest : position test xs ≡ None = grind (arith, common_steps, fails, none) in
      let h = none_first test xs rest in
      (grind (arith, common_steps, fails, h.0), grind (arith, common_steps, fails, h.1))
]

found_index : {X : Type 0} (test : X → Bool) (xs : List X) (i : ℕ) → position test xs ≡ Some i → (i ≡ position_or_len test xs) × (i < length xs)
found_index test xs i is = (grind (arith, common_steps, is), grind (arith, common_steps, is))

pub found_first : {X : Type 0} (test : X → Bool) (xs : List X) (i : ℕ) (x : X) → position test xs ≡ Some i → x ≡ slice_index_or xs i x → find test xs ≡ Some x
found_first test xs i x is at =
    let h = found_index test xs i is in
    find_at test xs ∙ ap (λ (n : ℕ). slice_get xs n) (sym h.0) ∙ slice_get_read xs (length xs) i x refl h.1 at

pub left_first : {X : Type 0} (test : X → Bool) (xs : List X) (i : ℕ) → position test xs ≡ Some i → remove xs i ≡ without_first test xs
left_first test xs i is = ap (λ (n : ℕ). remove xs n) (found_index test xs i is).0 ∙ removed_first test xs

pub none_left : {X : Type 0} (test : X → Bool) (xs : List X) → find test xs ≡ None → without_first test xs ≡ xs
none_left test [] none = refl
none_left {X} test (x ∷ xs) none = elim (cases_Bool (test x)) [
  | inl passes ↦ absurd (grind (arith, common_steps, passes, none))
  | inr fails ↦
      let rest : find test xs ≡ None = grind (arith, common_steps, fails, none) in
      ap (λ (b : Bool). if b then xs else x ∷ without_first test xs) fails ∙ ap (λ (l : List X). x ∷ l) (none_left test xs rest)
]
