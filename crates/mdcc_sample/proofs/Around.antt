-- A step from one item to another, round the end of a shop.
use Rattle.std.proofs.Common.{◌≡◌, ◌≢◌, ◌⊎◌, ℕ, ◌+◌, ◌-◌, ◌%◌, ◌<◌, ◌≤◌, inl, inr, refl, sym, ◌∙◌, arith}
use Rattle.std.proofs.Math.Nat.{mod-eq_of_lt, mod-eq-sub-mod}
use Rattle.std.proofs.lemmas.Bool.{cases_eq, cases_lt}
use Rattle.std.proofs.lemmas.Grind.{common_steps}
use Rattle.mdcc_sample.specs.Orders.{IsNeither, free_item, next_item, other_item, third_item}

wraps : (a n : ℕ) → n ≤ a → a < n + n → a % n ≡ a - n
wraps a n low high = let small : a - n < n = omega arith in mod-eq-sub-mod low ∙ mod-eq_of_lt small

-- less than once round
around : (a n : ℕ) → a < n + n → ((a < n) × (a % n ≡ a)) ⊎ ((n ≤ a) × (a % n + n ≡ a))
around a n high =
    elim (cases_lt a n) [
      | inl small ↦ inl (small, mod-eq_of_lt small)
      | inr large ↦ inr (large, (let e = wraps a n large high in omega arith))
    ]

pub other_is_other : (n first step : ℕ) → first < n → step + 1 < n → other_item n first step ≢ first
other_is_other n first step within less =
    elim (around (first + 1 + step) n (omega arith)) [
      | inl w ↦ omega arith
      | inr w ↦ omega arith
    ]

next_is : (n z : ℕ) → z < n → ((z + 1 < n) × (next_item n z ≡ z + 1)) ⊎ ((z + 1 ≡ n) × (next_item n z ≡ 0))
next_is n z within =
    elim (around (z + 1) n (omega arith)) [
      | inl w ↦ inl (w.0, w.1)
      | inr w ↦ inr (omega arith, omega arith)
    ]

free_is : (n x y z : ℕ) → ((z ≢ x) × (z ≢ y) × (free_item n x y z ≡ z)) ⊎ (((z ≡ x) ⊎ (z ≡ y)) × (free_item n x y z ≡ next_item n z))
free_is n x y z =
    elim (cases_eq z x) [
      | inl e ↦ inr (inl e, grind (arith, common_steps))
      | inr e ↦ elim (cases_eq z y) [
        | inl f ↦ inr (inr f, grind (arith, common_steps))
        | inr f ↦ inl (e, f, grind (arith, common_steps))
      ]
    ]

-- of two steps that each leave one of the two, the second ends at none
two_steps : (n x y z u v : ℕ) → 3 ≤ n → z < n → u < n → y ≢ x → ((z ≡ x) ⊎ (z ≡ y)) → ((u ≡ x) ⊎ (u ≡ y)) → u ≡ next_item n z → v ≡ next_item n u → IsNeither x y v
two_steps n x y z u v three wz wu other a b e f =
    elim (next_is n z wz) [
      | inl w ↦ elim (next_is n u wu) [
        | inl k ↦ (omega arith, omega arith)
        | inr k ↦ (omega arith, omega arith)
      ]
      | inr w ↦ elim (next_is n u wu) [
        | inl k ↦ (omega arith, omega arith)
        | inr k ↦ (omega arith, omega arith)
      ]
    ]

next_below : (n z : ℕ) → z < n → next_item n z < n
next_below n z within = elim (next_is n z within) [ inl w ↦ omega arith | inr w ↦ omega arith ]

free_below : (n x y z : ℕ) → z < n → free_item n x y z < n
free_below n x y z within =
    elim (free_is n x y z) [
      | inl w ↦ rw w.2 within
      | inr w ↦ rw w.1 (next_below n z within)
    ]

pub third_below : (n x y z : ℕ) → z < n → third_item n x y z < n
third_below n x y z within = free_below n x y (free_item n x y z) (free_below n x y z within)

third_by : (n x y z u : ℕ) → 3 ≤ n → z < n → y ≢ x → u ≡ free_item n x y z → IsNeither x y (free_item n x y u)
third_by n x y z u three within other e =
    elim (free_is n x y u) [
      | inl w ↦ rw w.2 (w.0, w.1)
      | inr w ↦ elim (free_is n x y z) [
        | inl k ↦ (let same : u ≡ z = e ∙ k.2 in absurd (elim w.0 [ inl a ↦ k.0 (sym same ∙ a) | inr a ↦ k.1 (sym same ∙ a) ]))
        | inr k ↦ (let step : u ≡ next_item n z = e ∙ k.1 in
            let below : u < n = rw step (next_below n z within) in
            two_steps n x y z u (free_item n x y u) three within below other k.0 w.0 step w.1)
      ]
    ]

pub third_is_neither : (n x y z : ℕ) → 3 ≤ n → z < n → y ≢ x → IsNeither x y (third_item n x y z)
third_is_neither n x y z three within other = third_by n x y z (free_item n x y z) three within other refl
