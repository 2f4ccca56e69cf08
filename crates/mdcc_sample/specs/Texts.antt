-- The text of a sample schedule.
use Rattle.std.specs.Prelude.{Bool, List, [], codes, decimal, if◌then◌else◌, nat_le, nat_lt, suc, zero, ℕ, ◌%◌, ◌&&◌, ◌*◌, ◌++◌, ◌+◌, ◌-◌, ◌/◌, ◌==◌, ◌||◌}
use Rattle.rand_pcg.specs.Lcg.{Lcg}
use Rattle.mdcc_sample.specs.Draws.{generator_of}
use Rattle.mdcc_sample.specs.Orders.{order_drawn}
use Rattle.mdcc_sample.specs.declared.orders.Order.{Order}
use Rattle.mdcc_sample.specs.declared.orders.Three.{Three}

-- five centres, of which any three are a classic quorum and any four a fast one, and items of one number
abbrev pub shop_header_text : List ℕ
shop_header_text = codes "mdcc-schedule 1\nquorums 5 3 4\ngamma 100\nbound 0 1000000\nstart\n"

abbrev pub settle_text : List ℕ
settle_text = codes "settle\n"

-- a settle where a test holds
abbrev pub settle_if : Bool → List ℕ
settle_if test = if test then settle_text else []

-- ---- items

-- the item of this number, from 1, is inserted with 1,000 pieces, at each centre in turn
abbrev pub insert_text : ℕ → List ℕ
insert_text number = codes "begin " ++ decimal ((number - 1) % 5 + 1) ++ codes " new:item/" ++ decimal number ++ codes ":-:1000\n"

-- a settle comes after each fiftieth, and after the last
abbrev pub shop_item_text : ℕ → ℕ → List ℕ
shop_item_text items number = insert_text number ++ settle_if (number % 50 == 0 || number == items)

-- the first n of so many items
abbrev pub items_text : ℕ → ℕ → List ℕ
items_text items zero = []
items_text items (suc n) = items_text items n ++ shop_item_text items (suc n)

-- ---- orders

-- a read of an item, which is counted from 0
abbrev pub shop_read_text : ℕ → ℕ → List ℕ
shop_read_text centre item = codes "read " ++ decimal centre ++ codes " item/" ++ decimal (item + 1) ++ codes "\n"

-- so many pieces of what the read of this number saw are taken
abbrev pub add_text : ℕ → ℕ → List ℕ
add_text read amount = codes " add:" ++ decimal read ++ codes ":1=-" ++ decimal amount

abbrev pub reads_text : Order → List ℕ
reads_text order =
    shop_read_text order.centre order.items.first ++ shop_read_text order.centre order.items.second ++ shop_read_text order.centre order.items.third

-- one of each of the next three reads after so many
abbrev pub adds_text : ℕ → Three → List ℕ
adds_text reads amounts =
    add_text (reads + 1) amounts.first ++ add_text (reads + 2) amounts.second ++ add_text (reads + 3) amounts.third

-- the transaction of an order, before which so many reads were made, its own left out
abbrev pub begin_text : ℕ → Order → List ℕ
begin_text reads order = codes "begin " ++ decimal order.centre ++ adds_text reads order.amounts ++ codes "\n"

-- centre 3 is down for the second third of the orders
abbrev pub is_down : ℕ → ℕ → Bool
is_down orders number = nat_lt (orders / 3) number && nat_le number (2 * (orders / 3))

-- before the order of this number, from 1, where there is a whole third
abbrev pub turn_text : ℕ → ℕ → List ℕ
turn_text third number =
    if nat_lt 0 third && number == third + 1 then codes "crash 3\n"
    else (if nat_lt 0 third && number == 2 * third + 1 then codes "restart 3\nsettle\n" else [])

-- the order of this number; a settle comes after each eighth
abbrev pub order_text : ℕ → ℕ → Order → List ℕ
order_text orders number order =
    turn_text (orders / 3) number ++ reads_text order ++ begin_text (3 * (number - 1)) order ++ settle_if (number % 8 == 0)

-- a text, and the generator after it
pub record Written : Type 0 where
  pub text : List ℕ
  pub generator : Lcg

-- the order of this number is drawn
unfoldable pub order_from : ℕ → ℕ → ℕ → Lcg → Written
order_from items orders number generator =
    let order = order_drawn items (is_down orders number) generator in
    record { text = order_text orders number order.0; generator = order.1 }

-- the first n of so many orders
abbrev pub orders_from : ℕ → ℕ → Lcg → ℕ → Written
orders_from items orders generator zero = record { text = []; generator = generator }
orders_from items orders generator (suc n) =
    let before = orders_from items orders generator n in
    let order = order_from items orders (suc n) before.generator in
    record { text = before.text ++ order.text; generator = order.generator }

-- ---- all of it

-- at the end all messages are delivered, and twice time passes at each centre
abbrev pub ticks_text : List ℕ
ticks_text = codes "tick 1\ntick 2\ntick 3\ntick 4\ntick 5\nsettle\n"

abbrev pub last_settle_text : List ℕ
last_settle_text = settle_text ++ ticks_text ++ ticks_text

unfoldable pub sample_text : ℕ → ℕ → ℕ → List ℕ
sample_text seed items orders =
    shop_header_text ++ items_text items items ++ (orders_from items orders (generator_of seed) orders).text ++ last_settle_text
