-- What one more delta does to the values of an item.
use Rattle.std.proofs.Common.{◌≡◌, ℕ, ◌+◌, ℤ, ◌+ℤ◌, List, [], ◌∷◌, length, map, refl, ap, ◌∙◌, inl, inr, arith}
use Rattle.std.proofs.lemmas.Bool.{cases_Bool}
use Rattle.std.proofs.lemmas.Int.{ints}
use Rattle.std.specs.List.{enumerate_from}
use Rattle.mdcc_base.specs.TxId.{tx_lt}
use Rattle.mdcc_option.specs.declared.items.Delta.{Delta}
use Rattle.mdcc_option.specs.OneCopy.{amount_at, value_after, with_delta}

swapped : (a b c : ℤ) → (a +ℤ b) +ℤ c ≡ (a +ℤ c) +ℤ b
swapped a b c = omega (arith, ints)

-- an amount may be added before the deltas or behind them
value_after-plus : (ds : List Delta) (place : ℕ) (base amount : ℤ)
    → value_after ds (place, base +ℤ amount) ≡ value_after ds (place, base) +ℤ amount
value_after-plus [] place base amount = refl
value_after-plus (d ∷ ds) place base amount =
    ap (λ v. value_after ds (place, v)) (swapped base amount (amount_at (place + 1) d.amounts))
    ∙ value_after-plus ds place (base +ℤ amount_at (place + 1) d.amounts) amount

-- wherever a delta is put, its amount is added
pub value_after-with_delta : (ds : List Delta) (delta : Delta) (place : ℕ) (base : ℤ)
    → value_after (with_delta ds delta) (place, base) ≡ value_after ds (place, base) +ℤ amount_at (place + 1) delta.amounts
value_after-with_delta [] delta place base = refl
value_after-with_delta (d ∷ ds) delta place base =
    elim (cases_Bool (tx_lt delta.tx d.tx)) [
      | inl e ↦ rw e (value_after-plus (d ∷ ds) place base (amount_at (place + 1) delta.amounts))
      | inr e ↦ rw e (value_after-with_delta ds delta place (base +ℤ amount_at (place + 1) d.amounts))
    ]

pub length-with_delta : (ds : List Delta) (delta : Delta) → length (with_delta ds delta) ≡ length ds + 1
length-with_delta [] delta = refl
length-with_delta (d ∷ ds) delta =
    elim (cases_Bool (tx_lt delta.tx d.tx)) [
      | inl e ↦ rw e (omega arith)
      | inr e ↦ rw e (let rest = length-with_delta ds delta in omega arith)
    ]

-- with no delta the values are those of the item
pub value_after-none : (start : ℕ) (values : List ℤ) → map (value_after []) (enumerate_from start values) ≡ values
value_after-none start [] = refl
value_after-none start (v ∷ vs) = ap (λ rest. v ∷ rest) (value_after-none (start + 1) vs)

pub ruleset delta_laws = (value_after-with_delta, length-with_delta, value_after-none)
