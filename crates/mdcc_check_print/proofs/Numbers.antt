-- Numbers that are written are read.
use Rattle.std.proofs.Common.{◌≡◌, ℕ, zero, suc, ◌-◌, ◌^◌, ◌<◌, ◌≤◌, ◌==◌, ◌&&◌, ◌||◌, true, not, cond, nat_abs, int_lt, int_le, ℤ, pos, negsuc, neg_ℤ, List, [], ◌∷◌, length, drop, get_or, slice_index, Result, Ok, ap, ◌∙◌, arith, ne_eqb}
use Rattle.std.specs.Fmt.{decimal, signed_decimal}
use Rattle.std.specs.Str.{all_ascii_digits}
use Rattle.std.specs.Str.Parse.{IsNumeral, digits_value, signed_digits_value, without_leading_sign, without_leading_plus}
use Rattle.std.proofs.lemmas.Bool.{and_from, le-leb, leb-true, or_left, or_right}
use Rattle.std.proofs.lemmas.Fmt.{decimal_digit, decimal_nonempty, digits_decimal, digits_value-decimal, first_decimal}
use Rattle.std.proofs.lemmas.Str.Parse.{IsNumeralModel, digit_from_value, numerals_by_value, tells_all_ascii_digits}
use Rattle.mdcc_def_language.specs.declared.schedule.SchedFault.{SchedFault}
use Rattle.mdcc_def_language.specs.declared.schedule.SchedCause.TheVariants.{Number, Range}
use Rattle.mdcc_def_language.specs.Words.{are_plain_digits, is_negative, natural_of, number_of, refused, value_of, within, ◌>>=◌}
use Rattle.mdcc_check_print.specs.Printable.{Is64}

pub model : IsNumeralModel (λ ds. all_ascii_digits ds ≡ true) (digits_value 10)
model = numerals_by_value _ tells_all_ascii_digits

plain-from : (ds : List ℕ) → all_ascii_digits ds ≡ true → 0 < length ds → 48 < get_or ds 0 0 → are_plain_digits ds ≡ true
plain-from [] e some first = absurd (omega (arith, some))
plain-from (b ∷ []) e some first = e
plain-from (b ∷ c ∷ bs) e some first = and_from (not (b == 48)) (all_ascii_digits (b ∷ c ∷ bs)) (ap not (ne_eqb b 48 (λ same. omega (arith, first, same)))) e

pub plain-decimal : (n : ℕ) → n < 2 ^ 64 → are_plain_digits (decimal n) ≡ true
plain-decimal zero h = ap are_plain_digits (decimal_digit 0 (omega arith))
plain-decimal (suc n) h = plain-from (decimal (suc n)) (digits_decimal model (suc n) h) (decimal_nonempty (suc n) h) (first_decimal (suc n) (omega arith) h)

plain-numeral : (n : ℕ) → n < 2 ^ 64 → IsNumeral 10 (decimal n)
plain-numeral n h = (decimal_nonempty n h, model.to (decimal n) (digits_decimal model n h))

no-sign : (word : List ℕ) → IsNumeral 10 word → without_leading_sign word ≡ word
no-sign [] h = absurd (omega (arith, h.0))
no-sign (b ∷ bs) h =
    let digit = digit_from_value b h.1.0 in
    ap (λ t. cond t bs (without_leading_plus (b ∷ bs))) (ne_eqb b 45 (λ e. omega (arith, digit.0)))
    ∙ ap (λ t. drop (cond t 1 0) (b ∷ bs)) (ne_eqb b 43 (λ e. omega (arith, digit.0)))

numeral-value : (word : List ℕ) → IsNumeral 10 word → signed_digits_value 10 word ≡ pos (digits_value 10 word)
numeral-value [] h = absurd (omega (arith, h.0))
numeral-value (b ∷ bs) h =
    let word : List ℕ = b ∷ bs in
    let digit = digit_from_value b h.1.0 in
    ap (λ t. cond t (neg_ℤ (pos (digits_value 10 (without_leading_sign word)))) (pos (digits_value 10 (without_leading_sign word)))) (ne_eqb b 45 (λ e. omega (arith, digit.0)))
    ∙ ap (λ ds. pos (digits_value 10 ds)) (no-sign word h)

decimal-value : (n : ℕ) → n < 2 ^ 64 → signed_digits_value 10 (decimal n) ≡ pos n
decimal-value n h = numeral-value (decimal n) (plain-numeral n h) ∙ ap pos (digits_value-decimal model n h)

number-read : (word : List ℕ) (column : ℕ) (low high z : ℤ) → (are_plain_digits word || (int_lt low (pos 0) && is_negative word)) ≡ true → signed_digits_value 10 word ≡ z
    → int_le low z ≡ true → int_le z high ≡ true → number_of word column low high ≡ Ok z
number-read word column low high z spelled value a b =
    ap (λ t. cond t (within column low high (signed_digits_value 10 word)) (refused column Number)) spelled
    ∙ ap (within column low high) value
    ∙ ap (λ t. cond t (let r : Result ℤ SchedFault = Ok z in r) (refused column Range)) (and_from (int_le low z) (int_le z high) a b)

-- a number that is not negative
pub natural-read : (n column low high : ℕ) → low ≤ n → n ≤ high → high < 2 ^ 64 → natural_of (decimal n) column low high ≡ Ok n
natural-read n column low high a b h =
    let small : n < 2 ^ 64 = omega (arith, b, h) in
    ap (λ r. r >>= λ number. Ok (nat_abs number))
    (number-read (decimal n) column (pos low) (pos high) (pos n) (or_left (are_plain_digits (decimal n)) _ (plain-decimal n small)) (decimal-value n small) (le-leb low n a) (le-leb n high b))

first-is : (ds : List ℕ) → 48 < get_or ds 0 0 → not (slice_index ds 0 == 48) ≡ true
first-is [] h = absurd (omega (arith, h))
first-is (b ∷ bs) h = ap not (ne_eqb b 48 (λ same. omega (arith, h, same)))

-- a value, an amount or a bound
pub value-read : (z : ℤ) (column : ℕ) → Is64 z → value_of (signed_decimal z) column ≡ Ok z
value-read (pos n) column (low, high) =
    let small : n < 2 ^ 64 = omega (arith, leb-true n (2 ^ 63 - 1) high) in
    number-read (decimal n) column (negsuc (2 ^ 63 - 1)) (pos (2 ^ 63 - 1)) (pos n) (or_left (are_plain_digits (decimal n)) _ (plain-decimal n small)) (decimal-value n small) low high
value-read (negsuc n) column (low, high) =
    let small : suc n < 2 ^ 64 = omega (arith, leb-true n (2 ^ 63 - 1) low) in
    let ds : List ℕ = decimal (suc n) in
    number-read (45 ∷ ds) column (negsuc (2 ^ 63 - 1)) (pos (2 ^ 63 - 1)) (negsuc n)
    (or_right (are_plain_digits (45 ∷ ds)) _ (and_from (are_plain_digits ds) (not (slice_index ds 0 == 48)) (plain-decimal (suc n) small) (first-is ds (first_decimal (suc n) (omega arith) small))))
    (ap (λ v. neg_ℤ (pos v)) (digits_value-decimal model (suc n) small)) low high
