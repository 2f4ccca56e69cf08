-- How large a shop may be.
use Rattle.std.specs.Prelude.{Bool, nat_le, ℕ, ◌&&◌, ◌*◌, ◌≤◌}

-- three items at least, since an order takes three; at most five orders for each item
abbrev pub is_shop : ℕ → ℕ → Bool
is_shop items orders = (nat_le 3 items && nat_le items 200) && (nat_le orders 1000 && nat_le orders (5 * items))

-- the same
pub record IsShop (items orders : ℕ) : Type 0 where
  pub some_items : 3 ≤ items
  pub few_items : items ≤ 200
  pub few_orders : orders ≤ 1000
  pub enough_items : orders ≤ 5 * items
