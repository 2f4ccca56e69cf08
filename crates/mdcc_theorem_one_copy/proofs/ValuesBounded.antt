-- Values within their bounds, from the sums of what is taken and of what is given.
use Rattle.std.proofs.Common.{◌≡◌, ℕ, zero, suc, ◌+◌, ◌<◌, ◌≤◌, true, List, [], ◌∷◌, length, get_or, refl, subst, arith, map, ℤ, pos, negsuc, ◌+ℤ◌, ◌-ℤ◌, ◌≤ℤ◌}
use Rattle.std.proofs.lemmas.Bool.{and_parts, and_from}
use Rattle.std.proofs.lemmas.Int.{ints}
use Rattle.std.specs.List.{fold, enumerate_from}
use Rattle.std.specs.Prelude.{int_le}
use Rattle.mdcc_option.specs.OneCopy.{amount_at, value_after}
use Rattle.mdcc_option.specs.Bounds.{are_within}
use Rattle.mdcc_option.specs.declared.items.Delta.{Delta}
use Rattle.mdcc_option.specs.declared.schema.Schema.{Schema}
use Rattle.mdcc_def_protocol.specs.Fit.{above_zero, decrease, increase}
use Rattle.mdcc_theorem_agreement.proofs.Totals.{total}

int_le-true : (a b : ℤ) → int_le a b ≡ true → a ≤ℤ b
int_le-true a b h = grind (arith, ints)

le-int_le : (a b : ℤ) → a ≤ℤ b → int_le a b ≡ true
le-int_le a b h = grind (arith, ints)

-- sums of amounts bound the value
abbrev pub down_sum : List Delta → ℕ → ℕ
down_sum ds n = total (λ (e : Delta). decrease (amount_at n e.amounts)) ds

abbrev pub up_sum : List Delta → ℕ → ℕ
up_sum ds n = total (λ (e : Delta). increase (amount_at n e.amounts)) ds

step_down : (z lo v : ℤ) (rest : ℕ) → (lo +ℤ pos (decrease z + rest)) ≤ℤ v → (lo +ℤ pos rest) ≤ℤ (v +ℤ z)
step_down (pos zero) lo v rest h = omega (arith, ints)
step_down (pos (suc k)) lo v rest h = omega (arith, ints)
step_down (negsuc k) lo v rest h = (let value : decrease (negsuc k) ≡ suc k = refl in omega (arith, ints))

step_up : (z hi v : ℤ) (rest : ℕ) → (v +ℤ pos (increase z + rest)) ≤ℤ hi → ((v +ℤ z) +ℤ pos rest) ≤ℤ hi
step_up (pos k) hi v rest h = (let value : increase (pos k) ≡ k = refl in omega (arith, ints))
step_up (negsuc k) hi v rest h = (let value : increase (negsuc k) ≡ 0 = refl in omega (arith, ints))

pub above_bound : (n : ℕ) (lo v : ℤ) (ds : List Delta) → (lo +ℤ pos (down_sum ds n)) ≤ℤ v → lo ≤ℤ fold (λ w e. w +ℤ amount_at n e.amounts) v ds
above_bound n lo v [] h = omega (arith, ints)
above_bound n lo v (e ∷ es) h = above_bound n lo (v +ℤ amount_at n e.amounts) es (step_down (amount_at n e.amounts) lo v (down_sum es n) h)

pub below_bound : (n : ℕ) (hi v : ℤ) (ds : List Delta) → (v +ℤ pos (up_sum ds n)) ≤ℤ hi → fold (λ w e. w +ℤ amount_at n e.amounts) v ds ≤ℤ hi
below_bound n hi v [] h = omega (arith, ints)
below_bound n hi v (e ∷ es) h = below_bound n hi (v +ℤ amount_at n e.amounts) es (step_up (amount_at n e.amounts) hi v (up_sum es n) h)

-- the room, as a number above zero
above_case : (z : ℤ) → pos 0 ≤ℤ z → pos (above_zero z) ≡ z
above_case (pos n) h = refl
above_case (negsuc n) h = absurd (omega (arith, ints))

pub room_down : (lo v : ℤ) (sum : ℕ) → lo ≤ℤ v → sum ≤ above_zero (v -ℤ lo) → (lo +ℤ pos sum) ≤ℤ v
room_down lo v sum low h =
    let value : pos (above_zero (v -ℤ lo)) ≡ v -ℤ lo = above_case (v -ℤ lo) (omega (arith, ints)) in
    omega (arith, ints)

pub room_up : (hi v : ℤ) (sum : ℕ) → v ≤ℤ hi → sum ≤ above_zero (hi -ℤ v) → (v +ℤ pos sum) ≤ℤ hi
room_up hi v sum high h =
    let value : pos (above_zero (hi -ℤ v)) ≡ hi -ℤ v = above_case (hi -ℤ v) (omega (arith, ints)) in
    omega (arith, ints)

-- each value within its bounds
abbrev pub Within : Schema → List ℤ → List Delta → ℕ → Type 0
Within [] vs ds n = Unit {0}
Within (b ∷ bs) [] ds n = Unit {0}
Within (b ∷ bs) (v ∷ vs) ds n =
    ((b.0 +ℤ pos (down_sum ds (n + 1))) ≤ℤ v) × ((v +ℤ pos (up_sum ds (n + 1))) ≤ℤ b.1) × Within bs vs ds (n + 1)

pub within_bounds : (bs : Schema) (vs : List ℤ) (ds : List Delta) (n : ℕ) → Within bs vs ds n →
    are_within bs (map (value_after ds) (enumerate_from n vs)) ≡ true
within_bounds [] vs ds n h = refl
within_bounds (b ∷ bs) [] ds n h = refl
within_bounds (b ∷ bs) (v ∷ vs) ds n h =
    and_from _ _ (and_from _ _
    (le-int_le b.0 (value_after ds (n, v)) (above_bound (n + 1) b.0 v ds h.0))
    (le-int_le (value_after ds (n, v)) b.1 (below_bound (n + 1) b.1 v ds h.1)))
    (within_bounds bs vs ds (n + 1) h.2)

-- from what holds of each attribute
pub all_within : (bs : Schema) (vs : List ℤ) (ds : List Delta) (n : ℕ) →
    ((j : ℕ) → j < length bs → j < length vs → (((get_or bs j (pos 0, pos 0)).0 +ℤ pos (down_sum ds ((n + j) + 1))) ≤ℤ get_or vs j (pos 0))
    × ((get_or vs j (pos 0) +ℤ pos (up_sum ds ((n + j) + 1))) ≤ℤ (get_or bs j (pos 0, pos 0)).1)) → Within bs vs ds n
all_within [] vs ds n h = tt
all_within (b ∷ bs) [] ds n h = tt
all_within (b ∷ bs) (v ∷ vs) ds n h =
    let here : _ = h 0 (omega arith) (omega arith) in
    let first : (n + 0) + 1 ≡ n + 1 = omega arith in (
      subst (λ k. (b.0 +ℤ pos (down_sum ds k)) ≤ℤ v) first here.0,
      subst (λ k. (v +ℤ pos (up_sum ds k)) ≤ℤ b.1) first here.1,
      all_within bs vs ds (n + 1) (λ j low high.
          let later : _ = h (suc j) (omega arith) (omega arith) in
          let next : (n + suc j) + 1 ≡ ((n + 1) + j) + 1 = omega arith in (
            subst (λ k. ((get_or bs j (pos 0, pos 0)).0 +ℤ pos (down_sum ds k)) ≤ℤ get_or vs j (pos 0)) next later.0,
            subst (λ k. (get_or vs j (pos 0) +ℤ pos (up_sum ds k)) ≤ℤ (get_or bs j (pos 0, pos 0)).1) next later.1,
          )),
    )

-- the written values are within their bounds
pub bounds_at : (bs : Schema) (vs : List ℤ) → are_within bs vs ≡ true → (j : ℕ) → j < length bs → j < length vs →
    ((get_or bs j (pos 0, pos 0)).0 ≤ℤ get_or vs j (pos 0)) × (get_or vs j (pos 0) ≤ℤ (get_or bs j (pos 0, pos 0)).1)
bounds_at [] vs h j low high = absurd (omega arith)
bounds_at (b ∷ bs) [] h j low high = absurd (omega arith)
bounds_at (b ∷ bs) (v ∷ vs) h zero low high =
    let parts = and_parts _ _ h in
    let both = and_parts _ _ parts.0 in
    (int_le-true b.0 v both.0, int_le-true v b.1 both.1)
bounds_at (b ∷ bs) (v ∷ vs) h (suc j) low high = bounds_at bs vs (and_parts _ _ h).1 j (omega arith) (omega arith)
