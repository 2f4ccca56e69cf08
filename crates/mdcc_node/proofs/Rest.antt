-- When the items that one test keeps are those that another one leaves.
use Rattle.std.proofs.Common.{◌≡◌, ◌==◌, ◌&&◌, ℕ, ◌+◌, ◌-◌, ◌≤◌, Bool, List, [], ◌∷◌, true, ap, filter, subst, ◌∙◌, length, not, refl, arith, inl, inr}
use Rattle.std.proofs.lemmas.Bool.{and_parts, cases_Bool, eqb-true}
use Rattle.mdcc_base.specs.Counts.{number_of}

both_equal : (a b n : ℕ) → (a == b && n == 0) ≡ true → (a ≡ b) × (n ≡ 0)
both_equal a b n h = let both = and_parts (a == b) (n == 0) h in (eqb-true a b both.0, eqb-true n 0 both.1)

module _ {X : Type 0} (kept passed : X → Bool) where
  few : (xs : List X) → length (filter kept xs) ≤ length xs
  few [] = omega arith
  few (x ∷ xs) =
      elim (cases_Bool (kept x)) [
        | inl k ↦ rw k (omega (arith, few xs))
        | inr k ↦ rw k (omega (arith, few xs))
      ]

  most : (xs : List X) → number_of passed xs + length (filter kept xs) ≤ length xs + number_of passed (filter kept xs)
  most [] = omega arith
  most (x ∷ xs) =
      elim (cases_Bool (kept x)) [
        | inl k ↦ elim (cases_Bool (passed x)) [
          | inl p ↦ rw (k, p) (omega (arith, most xs))
          | inr p ↦ rw (k, p) (omega (arith, most xs))
        ]
        | inr k ↦ elim (cases_Bool (passed x)) [
          | inl p ↦ rw (k, p) (omega (arith, most xs))
          | inr p ↦ rw (k, p) (omega (arith, most xs))
        ]
      ]

  left : (xs : List X) → number_of passed (filter kept xs) ≡ 0 → number_of passed xs + length (filter kept xs) ≡ length xs
      → filter kept xs ≡ filter (λ x. not (passed x)) xs
  left [] none all = refl
  left (x ∷ xs) none all =
      elim (cases_Bool (kept x)) [
        | inl k ↦ elim (cases_Bool (passed x)) [
          | inl p ↦
              let here : 1 + number_of passed (filter kept xs) ≡ 0 = rw (k, p) at none in
              absurd (omega (arith, here))
          | inr p ↦
              let none' : 0 + number_of passed (filter kept xs) ≡ 0 = rw (k, p) at none in
              let all' : (0 + number_of passed xs) + length (x ∷ filter kept xs) ≡ length (x ∷ xs) = rw (k, p) at all in
              let fewer : number_of passed (filter kept xs) ≡ 0 = omega (arith, none') in
              let rest : number_of passed xs + length (filter kept xs) ≡ length xs = omega (arith, all') in
              rw (k, p) (ap (λ ys. x ∷ ys) (left xs fewer rest))
        ]
        | inr k ↦ elim (cases_Bool (passed x)) [
          | inl p ↦
              let none' : number_of passed (filter kept xs) ≡ 0 = rw k at none in
              let all' : (1 + number_of passed xs) + length (filter kept xs) ≡ length (x ∷ xs) = rw (k, p) at all in
              let rest : number_of passed xs + length (filter kept xs) ≡ length xs = omega (arith, all') in
              rw (k, p) (left xs none' rest)
          | inr p ↦
              let none' : number_of passed (filter kept xs) ≡ 0 = rw k at none in
              let all' : (0 + number_of passed xs) + length (filter kept xs) ≡ length (x ∷ xs) = rw (k, p) at all in
              absurd (omega (arith, none', all', most xs))
        ]
      ]

  kept_are_left : (xs : List X) → number_of passed xs ≡ length xs - length (filter kept xs) → number_of passed (filter kept xs) ≡ 0
      → filter kept xs ≡ filter (λ x. not (passed x)) xs
  kept_are_left xs others none =
      let bound = few xs in
      let all : number_of passed xs + length (filter kept xs) ≡ length xs = omega (arith, others, bound) in
      left xs none all

  -- where none that is kept passes, and so many pass as are not kept
  pub all_left : (xs ys : List X) → ys ≡ filter kept xs → (number_of passed xs == length xs - length ys && number_of passed ys == 0) ≡ true
      → ys ≡ filter (λ x. not (passed x)) xs
  all_left xs ys is h =
      let counted : (number_of passed xs == length xs - length (filter kept xs) && number_of passed (filter kept xs) == 0) ≡ true = subst (λ zs. (number_of passed xs == length xs - length zs && number_of passed zs == 0) ≡ true) is h in
      let both = both_equal (number_of passed xs) (length xs - length (filter kept xs)) (number_of passed (filter kept xs)) counted in
      is ∙ kept_are_left xs both.0 both.1
