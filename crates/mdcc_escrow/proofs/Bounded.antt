-- Sums with the sizes of one more update are bounded where the sums are.
use Rattle.std.proofs.Common.{ℕ, zero, suc, ◌+ℤ◌, ◌≤ℤ◌, ◌^◌, List, [], ◌∷◌, ℤ, pos, get_or, int_lt, inl, inr, arith}
use Rattle.std.proofs.lemmas.Bool.{cases_Bool}
use Rattle.std.proofs.lemmas.Bool.Decides.{nat_tests}
use Rattle.std.proofs.lemmas.Int.{ints}
use Rattle.std.proofs.lemmas.List.Elements.{All-cons, All-head, All-nil, All-tail}
use Rattle.mdcc_option.specs.OneCopy.{amount_at}
use Rattle.mdcc_def_protocol.specs.Marks.{Amounts}
use Rattle.mdcc_escrow.specs.Sums.{AreBoundedSums, IsBoundedSum}
use Rattle.mdcc_escrow.specs.Weights.{with_amount, sums_with}

added-bounded : (size : ℕ) (sum : ℤ) → IsBoundedSum sum → IsBoundedSum (with_amount size sum)
added-bounded size sum h =
    elim (cases_Bool (int_lt (pos (2 ^ 96)) (sum +ℤ pos size))) [
      | inl above ↦ rw above (record { low = omega (arith, ints); high = omega (arith, ints) })
      | inr within ↦
          let low : pos 0 ≤ℤ sum = h.low in
          rw within (record { low = omega (arith, ints); high = grind (arith, ints, nat_tests) })
    ]

sum_at-bounded : (sums : List ℤ) (place : ℕ) → AreBoundedSums sums → IsBoundedSum (get_or sums place (pos 0))
sum_at-bounded [] place h = record { low = omega (arith, ints); high = omega (arith, ints) }
sum_at-bounded (sum ∷ sums) zero h = All-head IsBoundedSum sum sums h
sum_at-bounded (sum ∷ sums) (suc place) h = sum_at-bounded sums place (All-tail IsBoundedSum sum sums h)

four : (a b c d : ℤ) → IsBoundedSum a → IsBoundedSum b → IsBoundedSum c → IsBoundedSum d → AreBoundedSums (a ∷ b ∷ c ∷ d ∷ [])
four a b c d h k l m =
    All-cons IsBoundedSum a (b ∷ c ∷ d ∷ []) h
    (All-cons IsBoundedSum b (c ∷ d ∷ []) k (All-cons IsBoundedSum c (d ∷ []) l (All-cons IsBoundedSum d [] m (All-nil IsBoundedSum))))

pub sums_with-bounded : (size : ℤ → ℕ) (amounts : Amounts) (sums : List ℤ) → AreBoundedSums sums → AreBoundedSums (sums_with size amounts sums)
sums_with-bounded size amounts sums h =
    four
    (with_amount (size (amount_at 1 amounts)) (get_or sums 0 (pos 0)))
    (with_amount (size (amount_at 2 amounts)) (get_or sums 1 (pos 0)))
    (with_amount (size (amount_at 3 amounts)) (get_or sums 2 (pos 0)))
    (with_amount (size (amount_at 4 amounts)) (get_or sums 3 (pos 0)))
    (added-bounded (size (amount_at 1 amounts)) (get_or sums 0 (pos 0)) (sum_at-bounded sums 0 h))
    (added-bounded (size (amount_at 2 amounts)) (get_or sums 1 (pos 0)) (sum_at-bounded sums 1 h))
    (added-bounded (size (amount_at 3 amounts)) (get_or sums 2 (pos 0)) (sum_at-bounded sums 2 h))
    (added-bounded (size (amount_at 4 amounts)) (get_or sums 3 (pos 0)) (sum_at-bounded sums 3 h))
