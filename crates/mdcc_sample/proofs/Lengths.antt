-- How long a sample's text is.
use Rattle.std.proofs.Common.{◌≡◌, ℕ, zero, suc, ◌+◌, ◌-◌, ◌*◌, ◌/◌, ◌%◌, ◌^◌, ◌<◌, ◌≤◌, ◌==◌, ◌||◌, ◌&&◌, Bool, true, false, if◌then◌else◌, nat_lt, List, [], ◌++◌, length, codes, arith, lit<, lit≤, length-append}
use Rattle.std.specs.Fmt.{decimal}
use Rattle.std.proofs.lemmas.Fmt.{length-decimal-le}
use Rattle.rand_pcg.specs.Lcg.{Lcg}
use Rattle.mdcc_sample.specs.Draws.{generator_of}
use Rattle.mdcc_sample.specs.Orders.{AreFew, AreItemsWithin, IsShopOrder, order_drawn}
use Rattle.mdcc_sample.specs.Shop.{IsShop}
use Rattle.mdcc_sample.specs.Texts.{Written, add_text, adds_text, begin_text, insert_text, is_down, items_text, last_settle_text, order_from, order_text, orders_from, reads_text, sample_text, settle_if, shop_header_text, shop_item_text, shop_read_text, turn_text}
use Rattle.mdcc_sample.proofs.Sound.{orders_are_sound}
use Rattle.mdcc_sample.specs.declared.orders.Order.{Order}
use Rattle.mdcc_sample.specs.declared.orders.Three.{Three}

one_digit : (n : ℕ) → n < 10 → length (decimal n) ≤ 1
one_digit n h = length-decimal-le 1 n (lit< tt) h (omega arith)

three_digits : (n : ℕ) → n < 1000 → length (decimal n) ≤ 3
three_digits n h = length-decimal-le 3 n (lit< tt) h (omega arith)

four_digits : (n : ℕ) → n < 10000 → length (decimal n) ≤ 4
four_digits n h = length-decimal-le 4 n (lit< tt) h (omega arith)

five_pieces : (a b c d e : List ℕ) → length (a ++ b ++ c ++ d ++ e) ≡ length a + length b + length c + length d + length e
five_pieces a b c d e = simp length-append

four_pieces : (a b c d : List ℕ) → length (a ++ b ++ c ++ d) ≡ length a + length b + length c + length d
four_pieces a b c d = simp length-append

three_pieces : (a b c : List ℕ) → length (a ++ b ++ c) ≡ length a + length b + length c
three_pieces a b c = simp length-append

insert_short : (number : ℕ) → number ≤ 200 → length (insert_text number) ≤ 28
insert_short number h =
    let centre : length (decimal ((number - 1) % 5 + 1)) ≤ 1 = one_digit ((number - 1) % 5 + 1) (omega arith) in
    let name : length (decimal number) ≤ 3 = three_digits number (omega arith) in
    omega (arith, five_pieces (codes "begin ") (decimal ((number - 1) % 5 + 1)) (codes " new:item/") (decimal number) (codes ":-:1000\n"))

settle_short : (test : Bool) → length (settle_if test) ≤ 7
settle_short true = lit≤ tt
settle_short false = lit≤ tt

read_short : (centre item : ℕ) → centre ≤ 5 → item < 200 → length (shop_read_text centre item) ≤ 16
read_short centre item h k =
    let a : length (decimal centre) ≤ 1 = one_digit centre (omega arith) in
    let b : length (decimal (item + 1)) ≤ 3 = three_digits (item + 1) (omega arith) in
    omega (arith, five_pieces (codes "read ") (decimal centre) (codes " item/") (decimal (item + 1)) (codes "\n"))

add_short : (read amount : ℕ) → read < 10000 → amount ≤ 3 → length (add_text read amount) ≤ 14
add_short read amount h k =
    let a : length (decimal read) ≤ 4 = four_digits read h in
    let b : length (decimal amount) ≤ 1 = one_digit amount (omega arith) in
    omega (arith, four_pieces (codes " add:") (decimal read) (codes ":1=-") (decimal amount))

adds_short : (reads : ℕ) (amounts : Three) → reads < 9000 → AreFew amounts → length (adds_text reads amounts) ≤ 42
adds_short reads amounts h few =
    let a = add_short (reads + 1) amounts.first (omega arith) few.few_first in
    let b = add_short (reads + 2) amounts.second (omega arith) few.few_second in
    let c = add_short (reads + 3) amounts.third (omega arith) few.few_third in
    omega (arith, a, b, c, three_pieces (add_text (reads + 1) amounts.first) (add_text (reads + 2) amounts.second) (add_text (reads + 3) amounts.third))

begin_short : (reads : ℕ) (order : Order) → reads < 9000 → order.centre ≤ 5 → AreFew order.amounts → length (begin_text reads order) ≤ 50
begin_short reads order h at few =
    let a : length (decimal order.centre) ≤ 1 = one_digit order.centre (omega arith) in
    let b = adds_short reads order.amounts h few in
    omega (arith, a, b, four_pieces (codes "begin ") (decimal order.centre) (adds_text reads order.amounts) (codes "\n"))

reads_short : (items : ℕ) (order : Order) → items ≤ 200 → order.centre ≤ 5 → AreItemsWithin items order.items → length (reads_text order) ≤ 48
reads_short items order h at within =
    let a = read_short order.centre order.items.first at (omega (arith, within.first)) in
    let b = read_short order.centre order.items.second at (omega (arith, within.second)) in
    let c = read_short order.centre order.items.third at (omega (arith, within.third)) in
    omega (arith, a, b, c, three_pieces (shop_read_text order.centre order.items.first) (shop_read_text order.centre order.items.second) (shop_read_text order.centre order.items.third))

turn_by : (crash restart : Bool) → length (if crash then codes "crash 3\n" else (if restart then codes "restart 3\nsettle\n" else [])) ≤ 17
turn_by true restart = lit≤ tt
turn_by false true = lit≤ tt
turn_by false false = lit≤ tt

turn_short : (third number : ℕ) → length (turn_text third number) ≤ 17
turn_short third number = turn_by (nat_lt 0 third && number == third + 1) (nat_lt 0 third && number == 2 * third + 1)

-- ---- items

item_short : (items number : ℕ) → number ≤ 200 → length (shop_item_text items number) ≤ 35
item_short items number h =
    omega (arith, insert_short number h, settle_short (number % 50 == 0 || number == items), length-append (insert_text number) (settle_if (number % 50 == 0 || number == items)))

pub items_short : (items n : ℕ) → n ≤ 200 → length (items_text items n) ≤ 35 * n
items_short items zero h = omega arith
items_short items (suc n) h =
    omega (arith, items_short items n (omega arith), item_short items (suc n) h, length-append (items_text items n) (shop_item_text items (suc n)))

-- ---- orders

order_text_short : (items orders number : ℕ) (order : Order) → items ≤ 200 → number ≤ 1000 → order.centre ≤ 5 → AreItemsWithin items order.items → AreFew order.amounts
    → length (order_text orders number order) ≤ 122
order_text_short items orders number order h k at within few =
    let a = turn_short (orders / 3) number in
    let b = reads_short items order h at within in
    let c = begin_short (3 * (number - 1)) order (omega arith) at few in
    let d = settle_short (number % 8 == 0) in
    omega (arith, a, b, c, d, four_pieces (turn_text (orders / 3) number) (reads_text order) (begin_text (3 * (number - 1)) order) (settle_if (number % 8 == 0)))

order_short : (items orders number : ℕ) (generator : Lcg) → 3 ≤ items → items ≤ 200 → number ≤ 1000 → length (order_from items orders number generator).text ≤ 122
unfolding order_from
order_short items orders number generator some h k =
    let order : Order = (order_drawn items (is_down orders number) generator).0 in
    let is : IsShopOrder items (is_down orders number) order = orders_are_sound items (is_down orders number) generator some in
    order_text_short items orders number order h k is.serving.five is.within is.few

pub orders_short : (items orders : ℕ) (generator : Lcg) (n : ℕ) → 3 ≤ items → items ≤ 200 → n ≤ 1000 → length (orders_from items orders generator n).text ≤ 122 * n
orders_short items orders generator zero some h k = omega arith
orders_short items orders generator (suc n) some h k =
    let before : Written = orders_from items orders generator n in
    let order : Written = order_from items orders (suc n) before.generator in
    omega (arith, orders_short items orders generator n some h (omega arith), order_short items orders (suc n) before.generator some h k, length-append before.text order.text)

-- ---- all of it

pub sample_is_short : (seed items orders : ℕ) → IsShop items orders → length (sample_text seed items orders) ≤ 2 ^ 17
unfolding sample_text
sample_is_short seed items orders shop =
    let a = items_short items items shop.few_items in
    let b = orders_short items orders (generator_of seed) orders shop.some_items shop.few_items shop.few_orders in
    let more : List ℕ = (orders_from items orders (generator_of seed) orders).text in
    let c : 35 * items ≤ 7000 = omega (arith, shop.few_items) in
    let d : 122 * orders ≤ 122000 = omega (arith, shop.few_orders) in
    let size : length shop_header_text + (length (items_text items items) + (length more + length last_settle_text)) ≤ 2 ^ 17 = omega arith in
    omega (arith, four_pieces shop_header_text (items_text items items) more last_settle_text)
