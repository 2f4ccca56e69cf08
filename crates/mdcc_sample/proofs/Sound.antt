-- What every order is.
use Rattle.std.proofs.Common.{◌≡◌, ◌≢◌, ℕ, ◌+◌, ◌-◌, ◌<◌, ◌≤◌, ◌⊎◌, inl, inr, lit≤, Bool, true, false, arith, lit<}
use Rattle.std.proofs.Math.Nat.{mod-lt}
use Rattle.std.proofs.lemmas.Bool.{cases_eq}
use Rattle.std.proofs.lemmas.Grind.{common_steps}
use Rattle.rand_pcg.specs.Lcg.{Lcg}
use Rattle.mdcc_sample.specs.Draws.{drawn}
use Rattle.mdcc_sample.specs.Orders.{AreDistinctItems, AreFew, AreItemsWithin, IsServing, IsShopOrder, amounts_drawn, items_of, order_drawn, other_item, serving_centre}
use Rattle.mdcc_sample.proofs.Around.{other_is_other, third_below, third_is_neither}

drawn_below : (bound : ℕ) (generator : Lcg) → 0 < bound → (drawn bound generator).0 < bound
unfolding drawn
drawn_below bound generator some = mod-lt _ some

serving_is : (centre : ℕ) → ((centre ≡ 3) × (serving_centre centre true ≡ 4)) ⊎ ((centre ≢ 3) × (serving_centre centre true ≡ centre))
serving_is centre =
    elim (cases_eq centre 3) [
      | inl e ↦ inl (e, grind (arith, common_steps))
      | inr e ↦ inr (e, grind (arith, common_steps))
    ]

is_serving : (centre : ℕ) → 1 ≤ centre → centre ≤ 5 → centre ≢ 3 → IsServing true centre
is_serving centre some five other = record { some = some; five = five; up = λ _. other }

serves : (centre : ℕ) (is_down : Bool) → 1 ≤ centre → centre ≤ 5 → IsServing is_down (serving_centre centre is_down)
serves centre true some five =
    elim (serving_is centre) [
      | inl w ↦ rw w.1 (is_serving 4 (lit≤ tt) (lit≤ tt) (λ h. absurd (omega arith)))
      | inr w ↦ rw w.1 (is_serving centre some five w.0)
    ]
serves centre false some five = record { some = some; five = five; up = λ h. absurd (cc) }

items_within : (items : ℕ) (generator : Lcg) → 3 ≤ items → AreItemsWithin items (items_of items generator).0
items_within items generator some =
    let first = drawn items generator in
    let step = drawn (items - 1) first.1 in
    let a : first.0 < items = drawn_below items generator (omega arith) in
    let b : other_item items first.0 step.0 < items = mod-lt _ (omega arith) in
    let third = drawn items step.1 in
    let c : third.0 < items = drawn_below items step.1 (omega arith) in
    record { first = a; second = b; third = third_below items first.0 (other_item items first.0 step.0) third.0 c }

items_distinct : (items : ℕ) (generator : Lcg) → 3 ≤ items → AreDistinctItems (items_of items generator).0
items_distinct items generator some =
    let first = drawn items generator in
    let step = drawn (items - 1) first.1 in
    let a : first.0 < items = drawn_below items generator (omega arith) in
    let b : step.0 < items - 1 = drawn_below (items - 1) first.1 (omega arith) in
    let third = drawn items step.1 in
    let c : third.0 < items = drawn_below items step.1 (omega arith) in
    let other : other_item items first.0 step.0 ≢ first.0 = other_is_other items first.0 step.0 a (omega arith) in
    record { second_is_other = other; third_is_neither = third_is_neither items first.0 (other_item items first.0 step.0) third.0 some c other }

amounts_few : (generator : Lcg) → AreFew (amounts_drawn generator).0
amounts_few generator =
    let first = drawn 3 generator in
    let second = drawn 3 first.1 in
    let a : first.0 < 3 = drawn_below 3 generator (lit< tt) in
    let b : second.0 < 3 = drawn_below 3 first.1 (lit< tt) in
    let c : (drawn 3 second.1).0 < 3 = drawn_below 3 second.1 (lit< tt) in
    record { some_first = omega arith; few_first = omega arith; some_second = omega arith; few_second = omega arith; some_third = omega arith; few_third = omega arith }

pub orders_are_sound : (items : ℕ) (is_down : Bool) (generator : Lcg) → 3 ≤ items → IsShopOrder items is_down (order_drawn items is_down generator).0
orders_are_sound items is_down generator some =
    let centre = drawn 5 generator in
    let within : centre.0 < 5 = drawn_below 5 generator (lit< tt) in
    let ordered = items_of items centre.1 in
    record {
      serving = serves (centre.0 + 1) is_down (omega arith) (omega arith);
      within = items_within items centre.1 some;
      distinct = items_distinct items centre.1 some;
      few = amounts_few ordered.1;
    }
