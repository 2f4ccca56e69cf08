-- The orders of a shop. Items are counted from 0 here.
use Rattle.std.specs.Prelude.{Bool, true, if◌then◌else◌, ℕ, ◌%◌, ◌&&◌, ◌+◌, ◌-◌, ◌<◌, ◌==◌, ◌||◌, ◌≡◌, ◌≤◌, ◌≢◌}
use Rattle.rand_pcg.specs.Lcg.{Lcg}
use Rattle.mdcc_sample.specs.Draws.{drawn}
use Rattle.mdcc_sample.specs.declared.orders.Order.{Order}
use Rattle.mdcc_sample.specs.declared.orders.Three.{Three}

-- while centre 3 is down its orders go to centre 4
abbrev pub serving_centre : ℕ → Bool → ℕ
serving_centre centre is_down = if is_down && centre == 3 then 4 else centre

-- the centre that takes an order
abbrev pub centre_drawn : Bool → Lcg → ℕ × Lcg
centre_drawn is_down generator =
    let centre = drawn 5 generator in
    (serving_centre (centre.0 + 1) is_down, centre.1)

-- the item after another one, the first after the last
abbrev pub next_item : ℕ → ℕ → ℕ
next_item items item = (item + 1) % items

-- another item than the first, so many steps after it
abbrev pub other_item : ℕ → ℕ → ℕ → ℕ
other_item items first step = (first + 1 + step) % items

-- an item, or the one after it where it is one of two others
abbrev pub free_item : ℕ → ℕ → ℕ → ℕ → ℕ
free_item items first second item = if item == first || item == second then next_item items item else item

-- an item, or the first after it that is none of two others: at most two steps away
abbrev pub third_item : ℕ → ℕ → ℕ → ℕ → ℕ
third_item items first second item = free_item items first second (free_item items first second item)

-- three items: any one, any other one, and one more
abbrev pub items_of : ℕ → Lcg → Three × Lcg
items_of items generator =
    let first = drawn items generator in
    let step = drawn (items - 1) first.1 in
    let second = other_item items first.0 step.0 in
    let third = drawn items step.1 in
    (record { first = first.0; second = second; third = third_item items first.0 second third.0 }, third.1)

-- how many pieces of each, 1 to 3
abbrev pub amounts_drawn : Lcg → Three × Lcg
amounts_drawn generator =
    let first = drawn 3 generator in
    let second = drawn 3 first.1 in
    let third = drawn 3 second.1 in
    (record { first = first.0 + 1; second = second.0 + 1; third = third.0 + 1 }, third.1)

-- an order, and the generator after it
abbrev pub order_drawn : ℕ → Bool → Lcg → Order × Lcg
order_drawn items is_down generator =
    let centre = centre_drawn is_down generator in
    let ordered = items_of items centre.1 in
    let amounts = amounts_drawn ordered.1 in
    (record { centre = centre.0; items = ordered.0; amounts = amounts.0 }, amounts.1)

-- ---- what every order is

abbrev pub IsNeither : ℕ → ℕ → ℕ → Type 0
IsNeither first second item = (item ≢ first) × (item ≢ second)

-- three items of a shop with so many
pub record AreItemsWithin (items : ℕ) (ordered : Three) : Type 0 where
  pub first : ordered.first < items
  pub second : ordered.second < items
  pub third : ordered.third < items

-- of which no two are one
pub record AreDistinctItems (ordered : Three) : Type 0 where
  pub second_is_other : ordered.second ≢ ordered.first
  pub third_is_neither : IsNeither ordered.first ordered.second ordered.third

-- from 1 to 3 pieces
pub record AreFew (amounts : Three) : Type 0 where
  pub some_first : 1 ≤ amounts.first
  pub few_first : amounts.first ≤ 3
  pub some_second : 1 ≤ amounts.second
  pub few_second : amounts.second ≤ 3
  pub some_third : 1 ≤ amounts.third
  pub few_third : amounts.third ≤ 3

-- one of five centres, and not the third while that is down
pub record IsServing (is_down : Bool) (centre : ℕ) : Type 0 where
  pub some : 1 ≤ centre
  pub five : centre ≤ 5
  pub up : is_down ≡ true → centre ≢ 3

-- an order of a shop with so many items
pub record IsShopOrder (items : ℕ) (is_down : Bool) (order : Order) : Type 0 where
  pub serving : IsServing is_down order.centre
  pub within : AreItemsWithin items order.items
  pub distinct : AreDistinctItems order.items
  pub few : AreFew order.amounts

-- so is every order, whatever is drawn
abbrev pub EveryOrderIs : Type 0
EveryOrderIs = (items : ℕ) (is_down : Bool) (generator : Lcg) → 3 ≤ items → IsShopOrder items is_down (order_drawn items is_down generator).0
