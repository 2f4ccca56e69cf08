-- Numbers that are spelled plainly are numerals.
use Rattle.std.proofs.Common.{◌≡◌, ℕ, zero, suc, ◌<◌, ◌==◌, Bool, true, false, not, ◌&&◌, ◌||◌, List, [], ◌∷◌, length, drop, refl, sym, ap, ◌∙◌, arith, cond, inl, inr, ◌⊎◌, slice_index, ℤ, int_le, pos, negsuc, ◌≤ℤ◌, FitsSigned, ne_eqb, leb→le, T, subst, Ok}
use Rattle.std.specs.Int.{w128}
use Rattle.std.specs.Str.{all_ascii_digits, IsUtf8, IsAscii}
use Rattle.std.specs.Str.Parse.{IsNumeral, digits_value, without_leading_sign, without_leading_plus}
use Rattle.std.proofs.lemmas.Bool.{and_parts, or_cases, eqb-true}
use Rattle.std.proofs.lemmas.Str.Parse.{IsNumeralModel, numerals_by_value, tells_all_ascii_digits, digit_from_value}
use Rattle.std.proofs.lemmas.Str.{IsUtf8-from_ascii}
use Rattle.std.proofs.lemmas.Fmt.{IsAscii-from_digits}
use Rattle.mdcc_def_language.specs.declared.schedule.SchedCause.TheVariants.{Range}
use Rattle.mdcc_def_language.specs.Words.{are_plain_digits, is_negative, within, refused}

pub model : IsNumeralModel (λ ds. all_ascii_digits ds ≡ true) (digits_value 10)
model = numerals_by_value _ tells_all_ascii_digits

pub plain_digits : (word : List ℕ) → are_plain_digits word ≡ true → (all_ascii_digits word ≡ true) × (0 < length word)
plain_digits [] e = absurd (cc)
plain_digits (b ∷ []) e = (e, omega arith)
plain_digits (b ∷ c ∷ bs) e = ((and_parts (not (b == 48)) (all_ascii_digits (b ∷ c ∷ bs)) e).1, omega arith)

pub plain_numeral : (word : List ℕ) → are_plain_digits word ≡ true → IsNumeral 10 word
plain_numeral word e = let parts = plain_digits word e in (parts.1, model.to word parts.0)

pub no_sign : (word : List ℕ) → IsNumeral 10 word → without_leading_sign word ≡ word
no_sign [] h = absurd (omega (arith, h.0))
no_sign (b ∷ bs) h =
    let digit = digit_from_value b h.1.0 in
    ap (λ t. cond t bs (without_leading_plus (b ∷ bs))) (ne_eqb b 45 (λ e. omega (arith, digit.0)))
    ∙ ap (λ t. drop (cond t 1 0) (b ∷ bs)) (ne_eqb b 43 (λ e. omega (arith, digit.0)))

negative_sign : (word : List ℕ) → is_negative word ≡ true → IsNumeral 10 (without_leading_sign word)
negative_sign [] e = absurd (cc)
negative_sign (b ∷ bs) e =
    let parts = and_parts (b == 45) (are_plain_digits bs && not (slice_index bs 0 == 48)) e in
    let digits = and_parts (are_plain_digits bs) (not (slice_index bs 0 == 48)) parts.1 in
    let sign : without_leading_sign (b ∷ bs) ≡ bs = ap (λ t. cond t bs (without_leading_plus (b ∷ bs))) parts.0 in
    rw sign (plain_numeral bs digits.0)

pub spelled_numeral : (word : List ℕ) → (are_plain_digits word || is_negative word) ≡ true → IsNumeral 10 (without_leading_sign word)
spelled_numeral word e = by (or_cases (are_plain_digits word) (is_negative word) e)
  where
    by : (are_plain_digits word ≡ true) ⊎ (is_negative word ≡ true) → IsNumeral 10 (without_leading_sign word)
    by (inl plain) = rw (no_sign word (plain_numeral word plain)) (plain_numeral word plain)
    by (inr negative) = negative_sign word negative

-- what lies between two numbers of 128 bits has 128 bits
pub fits_between : (number low high : ℤ) → FitsSigned w128 low → FitsSigned w128 high → low ≤ℤ number → number ≤ℤ high → FitsSigned w128 number
fits_between (pos n) low (pos m) a b below above = record { sfits = omega (arith, b.sfits, leb→le n m above.le) }
fits_between (pos n) low (negsuc m) a b below above = absurd above.le
fits_between (negsuc n) (negsuc m) high a b below above = record { sfits = omega (arith, a.sfits, leb→le n m below.le) }
fits_between (negsuc n) (pos m) high a b below above = absurd below.le

passed : (a b : ℤ) → int_le a b ≡ true → a ≤ℤ b
passed a b e = record { le = subst T (sym e) tt }

-- a number that has not 128 bits is outside
pub not_within : (column : ℕ) (low high number : ℤ) → FitsSigned w128 low → FitsSigned w128 high → (FitsSigned w128 number → ⊥) → within column low high number ≡ refused column Range
not_within column low high number a b unfit = by (int_le low number && int_le number high) refl
  where
    by : (test : Bool) → (int_le low number && int_le number high) ≡ test → cond test (Ok number) (refused column Range) ≡ refused column Range
    by true e =
        let parts = and_parts (int_le low number) (int_le number high) e in
        absurd (unfit (fits_between number low high a b (passed low number parts.0) (passed number high parts.1)))
    by false e = refl

plain_ascii : (word : List ℕ) → are_plain_digits word ≡ true → IsAscii word
plain_ascii word e = IsAscii-from_digits word (plain_numeral word e).1

cons_ascii : (b : ℕ) (bs : List ℕ) → b < 128 → IsAscii bs → IsAscii (b ∷ bs)
cons_ascii b bs l h zero = l
cons_ascii b bs l h (suc i) = h i

negative_ascii : (word : List ℕ) → is_negative word ≡ true → IsAscii word
negative_ascii [] e = absurd (cc)
negative_ascii (b ∷ bs) e =
    let parts = and_parts (b == 45) (are_plain_digits bs && not (slice_index bs 0 == 48)) e in
    let digits = and_parts (are_plain_digits bs) (not (slice_index bs 0 == 48)) parts.1 in
    cons_ascii b bs (omega (arith, eqb-true b 45 parts.0)) (plain_ascii bs digits.0)

pub spelled_utf8 : (word : List ℕ) → (are_plain_digits word || is_negative word) ≡ true → IsUtf8 word
spelled_utf8 word e = by (or_cases (are_plain_digits word) (is_negative word) e)
  where
    by : (are_plain_digits word ≡ true) ⊎ (is_negative word ≡ true) → IsUtf8 word
    by (inl plain) = IsUtf8-from_ascii word (plain_ascii word plain)
    by (inr negative) = IsUtf8-from_ascii word (negative_ascii word negative)
