-- What passes a room, or a share of it, passes it also where the sum is a capped one.
use Rattle.std.proofs.Common.{◌≡◌, ℕ, zero, suc, ◌+◌, ◌-◌, ◌*◌, ◌^◌, ◌<◌, ◌≤◌, min, Bool, true, List, [], ◌∷◌, map, ℤ, pos, negsuc, ◌+ℤ◌, ◌-ℤ◌, ◌*ℤ◌, neg_ℤ, nat_abs, ◌≤ℤ◌, ◌&&◌, get_or, int_lt, int_le, nat_le, nat_lt, All, Option, Some, None, refl, ap, ◌∙◌, inl, inr, arith}
use Rattle.std.proofs.lemmas.Bool.{cases_Bool, and_parts}
use Rattle.std.proofs.lemmas.Bool.Decides.{nat_tests}
use Rattle.std.proofs.lemmas.Int.{ints}
use Rattle.std.proofs.lemmas.List.Elements.{All-head, All-tail}
use Rattle.std.proofs.lemmas.Nat.{mul-le}
use Rattle.std.specs.List.{list_all}
use Rattle.mdcc_base.specs.AreQuorums.{AreQuorums}
use Rattle.mdcc_base.specs.Sizes.{Sizes}
use Rattle.mdcc_option.specs.Bounds.{is_bound}
use Rattle.mdcc_option.specs.declared.cluster.Cluster.{Cluster}
use Rattle.mdcc_option.specs.declared.cluster.FastLimit.{FastLimit}
use Rattle.mdcc_option.specs.declared.items.Item.{Item}
use Rattle.mdcc_option.specs.declared.items.Update.{Update}
use Rattle.mdcc_def_protocol.specs.Fit.{Quantity, capped, capped_sum, delta_count, exact_fit, fast_fit, first_number, is_past_limit, is_past_room, limit_of, parts_of, quantities_of, quantity_at, quantity_of, share_of}
use Rattle.mdcc_def_protocol.specs.declared.fit.Load.{Load}
use Rattle.mdcc_def_protocol.proofs.EnoughPromises.{parts-classic, parts-within}
use Rattle.mdcc_escrow.specs.Capped.{AreDeclared, IsShort}

-- ---- numbers

-- a sum above 2^96, and 2^96 itself, are past every room
past_room : (room sum amount : ℤ) → room ≤ℤ pos (2 ^ 65) → pos 0 ≤ℤ amount → pos (2 ^ 96) ≤ℤ sum → int_lt room (sum +ℤ amount) ≡ true
past_room room sum amount h k l = grind (arith, ints)

pub room-capped : (room sum amount : ℤ) → room ≤ℤ pos (2 ^ 65) → pos 0 ≤ℤ amount → int_lt room (capped_sum sum +ℤ amount) ≡ int_lt room (sum +ℤ amount)
room-capped room sum amount h k =
    elim (cases_Bool (int_lt (pos (2 ^ 96)) sum)) [
      | inl above ↦ rw above (past_room room (pos (2 ^ 96)) amount h k (omega (arith, ints)) ∙ rw (past_room room sum amount h k (grind (arith, ints))) refl)
      | inr within ↦ rw within refl
    ]

-- so are they past every share of a room
share_below : (share classic r t : ℕ) → share ≤ 9 → 1 ≤ classic → r ≤ 2 ^ 65 → 2 ^ 96 ≤ t → share * r < classic * t
share_below share classic r t h k l m =
    let a : share * r ≤ 9 * 2 ^ 65 = mul-le share r 9 (2 ^ 65) h l in
    let b : 1 * 2 ^ 96 ≤ classic * t = mul-le 1 (2 ^ 96) classic t k m in
    omega arith

below : (n t : ℕ) → 0 < t → int_lt (neg_ℤ (pos n)) (pos t) ≡ true
below zero t h = grind (arith, nat_tests)
below (suc n) t h = refl

past_share : (share classic : ℕ) (room total : ℤ) → share ≤ 9 → 1 ≤ classic → room ≤ℤ pos (2 ^ 65) → pos (2 ^ 96) ≤ℤ total
    → int_lt (pos share *ℤ room) (pos classic *ℤ total) ≡ true
past_share share classic (pos r) (pos t) h k l m =
    let less = share_below share classic r t h k (omega (arith, ints)) (omega (arith, ints)) in
    grind (arith, nat_tests)
past_share share classic (negsuc r) (pos t) h k l m =
    below (share * suc r) (classic * t) (share_below 0 classic 0 t (omega arith) k (omega arith) (omega (arith, ints)))
past_share share classic room (negsuc t) h k l m = absurd (omega (arith, ints))

share-capped : (share classic : ℕ) (room sum amount : ℤ) → share ≤ 9 → 1 ≤ classic → room ≤ℤ pos (2 ^ 65) → pos 0 ≤ℤ amount
    → int_lt (pos share *ℤ room) (pos classic *ℤ (capped_sum sum +ℤ amount)) ≡ int_lt (pos share *ℤ room) (pos classic *ℤ (sum +ℤ amount))
share-capped share classic room sum amount h k l m =
    elim (cases_Bool (int_lt (pos (2 ^ 96)) sum)) [
      | inl above ↦
          let past : int_lt (pos share *ℤ room) (pos classic *ℤ (sum +ℤ amount)) ≡ true = past_share share classic room (sum +ℤ amount) h k l (grind (arith, ints)) in
          rw (above, past) (past_share share classic room (pos (2 ^ 96) +ℤ amount) h k l (omega (arith, ints)))
      | inr within ↦ rw within refl
    ]

-- a count that stops at 2^32 - 1 is past the same rooms
count-capped : (count : ℕ) → int_lt (pos 64) (pos (min count (2 ^ 32 - 1)) +ℤ pos 1) ≡ int_lt (pos 64) (pos count +ℤ pos 1)
count-capped count = grind (arith, nat_tests)

some-capped : (count : ℕ) → nat_lt 0 (min count (2 ^ 32 - 1)) ≡ nat_lt 0 count
some-capped count = grind (arith, nat_tests)

-- and past the same shares
count_below : (share classic count : ℕ) → share ≤ 9 → 1 ≤ classic → 2 ^ 32 - 1 ≤ count → share * 64 < classic * (count + 1)
count_below share classic count h k l =
    let a : 1 * 2 ^ 32 ≤ classic * (count + 1) = mul-le 1 (2 ^ 32) classic (count + 1) k (omega arith) in
    omega arith

count_share-capped : (share classic count : ℕ) → share ≤ 9 → 1 ≤ classic
    → int_lt (pos share *ℤ pos 64) (pos classic *ℤ (pos (min count (2 ^ 32 - 1)) +ℤ pos 1)) ≡ int_lt (pos share *ℤ pos 64) (pos classic *ℤ (pos count +ℤ pos 1))
count_share-capped share classic count h k =
    elim (cases_Bool (nat_lt count (2 ^ 32 - 1))) [
      | inl less ↦ let same : min count (2 ^ 32 - 1) ≡ count = grind (arith, nat_tests) in rw same refl
      | inr more ↦
          let same : min count (2 ^ 32 - 1) ≡ 2 ^ 32 - 1 = grind (arith, nat_tests) in
          let a = count_below share classic (2 ^ 32 - 1) h k (omega arith) in
          let b = count_below share classic count h k (grind (arith, nat_tests)) in
          rw same (grind (arith, nat_tests))
    ]

-- ---- quantities

pub sum-capped : (sums : List ℤ) (place : ℕ) → get_or (map capped_sum sums) place (pos 0) ≡ capped_sum (get_or sums place (pos 0))
sum-capped [] place = refl
sum-capped (sum ∷ sums) zero = refl
sum-capped (sum ∷ sums) (suc place) = sum-capped sums place

-- the room of a quantity is one of 65 bits at most
pub short_room : (bounds : ℤ × ℤ) (value : ℤ) → is_bound bounds ≡ true → IsShort value
    → ((bounds.1 -ℤ value) ≤ℤ pos (2 ^ 65)) × ((value -ℤ bounds.0) ≤ℤ pos (2 ^ 65))
short_room bounds value h k = (omega (arith, ints, upper, k.low), omega (arith, ints, lower, k.high))
  where
    above : (n : ℤ) → nat_le (nat_abs n) 1000000000000000 ≡ true → (n ≤ℤ pos 1000000000000000) × (neg_ℤ (pos 1000000000000000) ≤ℤ n)
    above (pos n) h = (grind (arith, ints, nat_tests), grind (arith, ints, nat_tests))
    above (negsuc n) h = (grind (arith, ints, nat_tests), grind (arith, ints, nat_tests))

    parts : (nat_le (nat_abs bounds.0) 1000000000000000 ≡ true) × (nat_le (nat_abs bounds.1) 1000000000000000 ≡ true)
    parts =
        let low = nat_le (nat_abs bounds.0) 1000000000000000 in
        let high = nat_le (nat_abs bounds.1) 1000000000000000 in
        and_parts low high (and_parts (int_le bounds.0 bounds.1) (low && high) h).1

    upper : bounds.1 ≤ℤ pos 1000000000000000
    upper = (above bounds.1 parts.1).0

    lower : neg_ℤ (pos 1000000000000000) ≤ℤ bounds.0
    lower = (above bounds.0 parts.0).1

pub bound_at : (schema : List (ℤ × ℤ)) (place : ℕ) → list_all is_bound schema ≡ true → is_bound (get_or schema place (pos 0, pos 0)) ≡ true
bound_at [] place h = refl
bound_at (bounds ∷ schema) zero h = (and_parts _ _ h).0
bound_at (bounds ∷ schema) (suc place) h = bound_at schema place (and_parts _ _ h).1

pub short_at : (values : List ℤ) (place : ℕ) → All IsShort values → IsShort (get_or values place (pos 0))
short_at [] place h = record { low = omega (arith, ints); high = omega (arith, ints) }
short_at (value ∷ values) zero h = All-head IsShort value values h
short_at (value ∷ values) (suc place) h = short_at values place (All-tail IsShort value values h)

-- a test that answers the same at the quantity of a capped load
abbrev Agrees : (Quantity → Bool) → (attribute : ℕ) (value : ℤ) (bounds : ℤ × ℤ) (amount : ℤ) (load : Load) → Type 0
Agrees test attribute value bounds amount load = test (quantity_of attribute value bounds amount (capped load)) ≡ test (quantity_of attribute value bounds amount load)

room-agrees : (attribute : ℕ) (value : ℤ) (bounds : ℤ × ℤ) (amount : ℤ) (load : Load) → is_bound bounds ≡ true → IsShort value
    → Agrees is_past_room attribute value bounds amount load
room-agrees attribute value bounds (pos n) load h k =
    rw (sum-capped load.up (attribute - 1)) (room-capped (bounds.1 -ℤ value) (get_or load.up (attribute - 1) (pos 0)) (pos n) (short_room bounds value h k).0 (omega (arith, ints)))
room-agrees attribute value bounds (negsuc n) load h k =
    rw (sum-capped load.down (attribute - 1)) (room-capped (value -ℤ bounds.0) (get_or load.down (attribute - 1) (pos 0)) (pos (n + 1)) (short_room bounds value h k).1 (omega (arith, ints)))

share_few : (limit : FastLimit) (sizes : Sizes) → AreQuorums sizes → share_of limit sizes ≤ 9
share_few limit sizes q = omega (arith, q.nine_centres, q.fast_within, parts-within limit sizes q)

some_parts : (limit : FastLimit) (sizes : Sizes) → AreQuorums sizes → 1 ≤ parts_of limit sizes
some_parts limit sizes q = omega (arith, q.some_classic, parts-classic limit sizes q)

limit-agrees : (limit : FastLimit) (sizes : Sizes) (attribute : ℕ) (value : ℤ) (bounds : ℤ × ℤ) (amount : ℤ) (load : Load) → AreQuorums sizes → is_bound bounds ≡ true → IsShort value
    → Agrees (is_past_limit limit sizes) attribute value bounds amount load
limit-agrees limit sizes attribute value bounds (pos n) load q h k =
    rw (sum-capped load.up (attribute - 1))
    (share-capped (share_of limit sizes) (parts_of limit sizes) (bounds.1 -ℤ value) (get_or load.up (attribute - 1) (pos 0)) (pos n)
    (share_few limit sizes q) (some_parts limit sizes q) (short_room bounds value h k).0 (omega (arith, ints)))
limit-agrees limit sizes attribute value bounds (negsuc n) load q h k =
    rw (sum-capped load.down (attribute - 1))
    (share-capped (share_of limit sizes) (parts_of limit sizes) (value -ℤ bounds.0) (get_or load.down (attribute - 1) (pos 0)) (pos (n + 1))
    (share_few limit sizes q) (some_parts limit sizes q) (short_room bounds value h k).1 (omega (arith, ints)))

-- ---- lists of them

number_at : (attribute : ℕ) (value : ℤ) (bounds : ℤ × ℤ) (amount : ℤ) (load : Load) → (quantity_of attribute value bounds amount load).number ≡ attribute
number_at attribute value bounds (pos n) load = refl
number_at attribute value bounds (negsuc n) load = refl

same_first : {X : Type 0} (test : Quantity → Bool) (f g : X → Quantity) → ((x : X) → test (f x) ≡ test (g x)) → ((x : X) → (f x).number ≡ (g x).number)
    → (xs : List X) → first_number test (map f xs) ≡ first_number test (map g xs)
same_first test f g h k [] = refl
same_first test f g h k (x ∷ xs) =
    elim (cases_Bool (test (g x))) [
      | inl passes ↦ rw (h x, passes) (ap (λ n. Some n) (k x))
      | inr not_yet ↦ rw (h x, not_yet) (same_first test f g h k xs)
    ]

same_first_of : (test : Quantity → Bool) (schema : List (ℤ × ℤ)) (base : Item) (load : Load) (amounts : List (ℕ × ℤ))
    → test (delta_count (capped load)) ≡ test (delta_count load)
    → ((attribute : ℕ) (value : ℤ) (bounds : ℤ × ℤ) (amount : ℤ) → is_bound bounds ≡ true → IsShort value → Agrees test attribute value bounds amount load)
    → list_all is_bound schema ≡ true → All IsShort base.values
    → first_number test (quantities_of schema base (capped load) amounts) ≡ first_number test (quantities_of schema base load amounts)
same_first_of test schema base load amounts count agrees bounds values =
    elim (cases_Bool (test (delta_count load))) [
      | inl passes ↦ rw (count, passes) refl
      | inr not_yet ↦ rw (count, not_yet) (same_first test (quantity_at schema base (capped load)) (quantity_at schema base load) at numbers amounts)
    ]
  where
    at : (a : ℕ × ℤ) → test (quantity_at schema base (capped load) a) ≡ test (quantity_at schema base load a)
    at (attribute, amount) =
        agrees attribute (get_or base.values (attribute - 1) (pos 0)) (get_or schema (attribute - 1) (pos 0, pos 0)) amount (bound_at schema (attribute - 1) bounds) (short_at base.values (attribute - 1) values)

    numbers : (a : ℕ × ℤ) → (quantity_at schema base (capped load) a).number ≡ (quantity_at schema base load a).number
    numbers (attribute, amount) =
        let value = get_or base.values (attribute - 1) (pos 0) in
        let pair = get_or schema (attribute - 1) (pos 0, pos 0) in
        rw (number_at attribute value pair amount (capped load), number_at attribute value pair amount load) refl

-- ---- fits

pub exact_fit-capped : (cluster : Cluster) (base : Option Item) (load : Load) (update : Update) → AreDeclared cluster base
    → exact_fit cluster base (capped load) update ≡ exact_fit cluster base load update
exact_fit-capped cluster base load (Update.Write item seen) h = rw (some-capped load.unseen) refl
exact_fit-capped cluster None load (Update.Add amounts) h = refl
exact_fit-capped cluster (Some base) load (Update.Add amounts) h =
    rw (
      some-capped load.writes,
      same_first_of is_past_room cluster.schema base load amounts (count-capped load.count)
          (λ attribute value bounds amount k l. room-agrees attribute value bounds amount load k l) h.schema.each h.values,
    ) refl

pub limit_of-capped : (cluster : Cluster) (base : Option Item) (load : Load) (update : Update) → AreDeclared cluster base
    → limit_of cluster base (capped load) update ≡ limit_of cluster base load update
limit_of-capped cluster None load update h = refl
limit_of-capped cluster (Some base) load (Update.Write item seen) h = refl
limit_of-capped cluster (Some base) load (Update.Add amounts) h =
    same_first_of (is_past_limit cluster.limit cluster.quorums) cluster.schema base load amounts
    (count_share-capped (share_of cluster.limit cluster.quorums) (parts_of cluster.limit cluster.quorums) load.count (share_few cluster.limit cluster.quorums h.quorums) (some_parts cluster.limit cluster.quorums h.quorums))
    (λ attribute value bounds amount k l. limit-agrees cluster.limit cluster.quorums attribute value bounds amount load h.quorums k l) h.schema.each h.values

pub fast_fit-capped : (cluster : Cluster) (base : Option Item) (load : Load) (update : Update) → AreDeclared cluster base
    → fast_fit cluster base (capped load) update ≡ fast_fit cluster base load update
fast_fit-capped cluster base load update h = rw (exact_fit-capped cluster base load update h, limit_of-capped cluster base load update h) refl

pub ruleset capped_fits = (exact_fit-capped, fast_fit-capped)
