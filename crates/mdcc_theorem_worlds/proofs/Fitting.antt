-- Updates that fit a schema are well-formed.
use Rattle.std.proofs.Common.{◌≡◌, ℕ, zero, suc, ◌+◌, ◌-◌, ◌≤◌, ◌&&◌, ◌==◌, true, false, not, List, [], ◌∷◌, length, get_or, ℤ, pos, negsuc, ◌-ℤ◌, neg_ℤ, nat_abs, ◌≤ℤ◌, int_le, nat_le, nat_lt, refl, inl, inr, Some, None, arith}
use Rattle.std.specs.Int.{w64}
use Rattle.std.specs.List.{AllByRecursion, list_all, list_any}
use Rattle.std.specs.Prelude.{FitsSigned, IsTrue}
use Rattle.std.proofs.lemmas.Bool.{and_from, and_parts, cases_Bool, eqb-true, leb-true, ltb-true}
use Rattle.std.proofs.lemmas.Bool.Decides.{nat_tests}
use Rattle.std.proofs.lemmas.Int.{ints}
use Rattle.mdcc_option.specs.Bounds.{IsSchema, are_within, is_bound, is_within}
use Rattle.mdcc_option.specs.Transaction.{add_fault, are_attributes, bounds_of, is_amount_within, is_zero_amount, write_fault}
use Rattle.mdcc_option.specs.declared.faults.DraftFault.TheVariants.{BadAttribute, OutOfBounds, ZeroAmount}
use Rattle.mdcc_option.specs.declared.items.Item.{Item}
use Rattle.mdcc_def_messages.specs.WellFormedParts.{IsWellFormedAmount, IsWellFormedAmounts, IsWellFormedItem, attribute_lt, is_ascending_by}
use Rattle.mdcc_theorem_worlds.specs.Words.{HasBody}

-- ---- numbers

large : (n : ℤ) → nat_le (nat_abs n) 1000000000000000 ≡ true → (n ≤ℤ pos 1000000000000000) × (neg_ℤ (pos 1000000000000000) ≤ℤ n)
large (pos n) h = (grind (arith, ints, nat_tests), grind (arith, ints, nat_tests))
large (negsuc n) h = (grind (arith, ints, nat_tests), grind (arith, ints, nat_tests))

bound_parts : (b : ℤ × ℤ) → is_bound b ≡ true → (int_le b.0 b.1 ≡ true) × (nat_le (nat_abs b.0) 1000000000000000 ≡ true) × (nat_le (nat_abs b.1) 1000000000000000 ≡ true)
bound_parts b h =
    let order = int_le b.0 b.1 in
    let low = nat_le (nat_abs b.0) 1000000000000000 in
    let high = nat_le (nat_abs b.1) 1000000000000000 in
    let first : (order ≡ true) × ((low && high) ≡ true) = and_parts order (low && high) h in
    let second : (low ≡ true) × (high ≡ true) = and_parts low high first.1 in
    (first.0, second.0, second.1)

short-fits : (z : ℤ) → z ≤ℤ pos 1000000000000000 → neg_ℤ (pos 1000000000000000) ≤ℤ z → FitsSigned w64 z
short-fits (pos n) h k = record { sfits = omega (arith, ints, h) }
short-fits (negsuc n) h k = record { sfits = omega (arith, ints, k) }

-- a value within bounds
value-fits : (b : ℤ × ℤ) (z : ℤ) → is_bound b ≡ true → is_within b z ≡ true → FitsSigned w64 z
value-fits b z bound within =
    let parts = bound_parts b bound in
    let both = and_parts (int_le b.0 z) (int_le z b.1) within in
    let high : b.1 ≤ℤ pos 1000000000000000 = (large b.1 parts.2).0 in
    let low : neg_ℤ (pos 1000000000000000) ≤ℤ b.0 = (large b.0 parts.1).1 in
    let above : b.0 ≤ℤ z = at-most b.0 z both.0 in
    let below : z ≤ℤ b.1 = at-most z b.1 both.1 in
    short-fits z (omega (arith, ints, high, below)) (omega (arith, ints, low, above))
  where
    at-most : (x y : ℤ) → int_le x y ≡ true → x ≤ℤ y
    at-most x y h = grind (arith, ints, h)

-- an amount no larger than what lies between bounds
amount-fits : (b : ℤ × ℤ) (z : ℤ) → is_bound b ≡ true → int_le (pos (nat_abs z)) (b.1 -ℤ b.0) ≡ true → FitsSigned w64 z
amount-fits b z bound within =
    let parts = bound_parts b bound in
    let high : b.1 ≤ℤ pos 1000000000000000 = (large b.1 parts.2).0 in
    let low : neg_ℤ (pos 1000000000000000) ≤ℤ b.0 = (large b.0 parts.1).1 in
    let short : pos (nat_abs z) ≤ℤ (b.1 -ℤ b.0) = grind (arith, ints, within) in
    let few : pos (nat_abs z) ≤ℤ pos 2000000000000000 = omega (arith, ints, high, low, short) in
    by_sign z few
  where
    by_sign : (x : ℤ) → pos (nat_abs x) ≤ℤ pos 2000000000000000 → FitsSigned w64 x
    by_sign (pos n) h = record { sfits = omega (arith, ints, h) }
    by_sign (negsuc n) h = record { sfits = omega (arith, ints, h) }

-- ---- values

values-fit : (bounds : List (ℤ × ℤ)) (values : List ℤ) → list_all is_bound bounds ≡ true → length values ≡ length bounds → are_within bounds values ≡ true
    → AllByRecursion (FitsSigned w64) values
values-fit bounds [] h e within = tt
values-fit [] (v ∷ vs) h e within = absurd (omega (e, arith))
values-fit (b ∷ bs) (v ∷ vs) h e within =
    let bound = and_parts (is_bound b) (list_all is_bound bs) h in
    let both = and_parts (is_within b v) (are_within bs vs) within in
    (value-fits b v bound.0 both.0, values-fit bs vs bound.1 (omega (e, arith)) both.1)

-- values of an item of the schema
pub written-fits : (schema : List (ℤ × ℤ)) (item : Item) → IsSchema schema → HasBody item → write_fault schema item.values ≡ None → IsWellFormedItem item
written-fits schema item is body clear = elim (cases_Bool (length item.values == length schema)) [
  | inr e ↦ let bad : Some BadAttribute ≡ None = rw e at clear in absurd (cc)
  | inl e ↦ elim (cases_Bool (are_within schema item.values)) [
    | inr f ↦ let bad : Some OutOfBounds ≡ None = rw (e, f) at clear in absurd (cc)
    | inl f ↦
        let same : length item.values ≡ length schema = eqb-true (length item.values) (length schema) e in
        let some = is.some in
        let few = is.few in
        record {
          body_fits = body.fits;
          bytes = body.bytes;
          count = (omega (same, some, arith), omega (same, few, arith));
          values = values-fit schema item.values (all-bounds is.each) same f;
        }
  ]
]
  where
    all-bounds : IsTrue (list_all is_bound schema) → list_all is_bound schema ≡ true
    all-bounds h = h

-- ---- amounts

bound_at : (schema : List (ℤ × ℤ)) (place : ℕ) → list_all is_bound schema ≡ true → is_bound (get_or schema place (pos 0, pos 0)) ≡ true
bound_at [] place h = refl
bound_at (bounds ∷ schema) zero h = (and_parts (is_bound bounds) (list_all is_bound schema) h).0
bound_at (bounds ∷ schema) (suc place) h = bound_at schema place (and_parts (is_bound bounds) (list_all is_bound schema) h).1

-- attributes above the last one are as many as there are left at most
few-attributes : (count last : ℕ) (amounts : List (ℕ × ℤ)) → last ≤ count → are_attributes count last amounts ≡ true → length amounts + last ≤ count
few-attributes count last [] within h = omega (within, arith)
few-attributes count last (a ∷ as') within h =
    let first = and_parts (nat_lt last a.0) (nat_le a.0 count && are_attributes count a.0 as') h in
    let second = and_parts (nat_le a.0 count) (are_attributes count a.0 as') first.1 in
    let above = ltb-true last a.0 first.0 in
    let ih = few-attributes count a.0 as' (leb-true a.0 count second.0) second.1 in
    omega (above, ih, arith)

attributes-ascend : (count last : ℕ) (amounts : List (ℕ × ℤ)) → are_attributes count last amounts ≡ true → is_ascending_by attribute_lt amounts ≡ true
attributes-ascend count last [] h = refl
attributes-ascend count last (a ∷ []) h = refl
attributes-ascend count last (a ∷ b ∷ bs) h =
    let first = and_parts (nat_lt last a.0) (nat_le a.0 count && are_attributes count a.0 (b ∷ bs)) h in
    let second = and_parts (nat_le a.0 count) (are_attributes count a.0 (b ∷ bs)) first.1 in
    let third = and_parts (nat_lt a.0 b.0) (nat_le b.0 count && are_attributes count b.0 bs) second.1 in
    and_from (attribute_lt a b) (is_ascending_by attribute_lt (b ∷ bs)) third.0 (attributes-ascend count a.0 (b ∷ bs) second.1)

none-zero : (a : ℕ × ℤ) (as' : List (ℕ × ℤ)) → list_any is_zero_amount (a ∷ as') ≡ false → (is_zero_amount a ≡ false) × (list_any is_zero_amount as' ≡ false)
none-zero a as' h = elim (cases_Bool (is_zero_amount a)) [
  | inl e ↦ let bad : true ≡ false = rw e at h in absurd (cc)
  | inr e ↦ let rest : list_any is_zero_amount as' ≡ false = rw e at h in (e, rest)
]

each-amount : (schema : List (ℤ × ℤ)) (last : ℕ) (amounts : List (ℕ × ℤ)) → list_all is_bound schema ≡ true → length schema ≤ 4
    → are_attributes (length schema) last amounts ≡ true → list_any is_zero_amount amounts ≡ false → list_all (is_amount_within schema) amounts ≡ true
    → AllByRecursion IsWellFormedAmount amounts
each-amount schema last [] bounds few h some within = tt
each-amount schema last (a ∷ as') bounds few h some within =
    let first = and_parts (nat_lt last a.0) (nat_le a.0 (length schema) && are_attributes (length schema) a.0 as') h in
    let second = and_parts (nat_le a.0 (length schema)) (are_attributes (length schema) a.0 as') first.1 in
    let above = ltb-true last a.0 first.0 in
    let below = leb-true a.0 (length schema) second.0 in
    let both = and_parts (is_amount_within schema a) (list_all (is_amount_within schema) as') within in
    let zero = none-zero a as' some in (
      record {
        attribute = (omega (above, arith), omega (below, few, arith));
        fits = amount-fits (bounds_of schema a.0) a.1 (bound_at schema (a.0 - 1) bounds) both.0;
        not_zero = is-true a zero.0;
      },
      each-amount schema a.0 as' bounds few second.1 zero.1 both.1,
    )
  where
    is-true : (x : ℕ × ℤ) → is_zero_amount x ≡ false → IsTrue (not (is_zero_amount x))
    is-true x e = rw e refl

-- amounts that may be added under the schema
pub added-fits : (schema : List (ℤ × ℤ)) (amounts : List (ℕ × ℤ)) → IsSchema schema → add_fault schema amounts ≡ None → IsWellFormedAmounts amounts
added-fits schema amounts is clear = elim (cases_Bool (length amounts == 0)) [
  | inl e ↦ let bad : Some BadAttribute ≡ None = rw e at clear in absurd (cc)
  | inr e ↦ elim (cases_Bool (are_attributes (length schema) 0 amounts)) [
    | inr f ↦ let bad : Some BadAttribute ≡ None = rw (e, f) at clear in absurd (cc)
    | inl f ↦ elim (cases_Bool (list_any is_zero_amount amounts)) [
      | inl g ↦ let bad : Some ZeroAmount ≡ None = rw (e, f, g) at clear in absurd (cc)
      | inr g ↦ elim (cases_Bool (list_all (is_amount_within schema) amounts)) [
        | inr k ↦ let bad : Some OutOfBounds ≡ None = rw (e, f, g, k) at clear in absurd (cc)
        | inl k ↦
            let few = is.few in
            let long = few-attributes (length schema) 0 amounts (omega arith) f in
            record {
              count = (some-amount amounts e, omega (long, few, arith));
              each = each-amount schema 0 amounts is.each few f g k;
              ascending = attributes-ascend (length schema) 0 amounts f;
            }
      ]
    ]
  ]
]
  where
    some-amount : (xs : List (ℕ × ℤ)) → (length xs == 0) ≡ false → 1 ≤ length xs
    some-amount [] e = absurd (cc)
    some-amount (x ∷ xs) e = omega arith
