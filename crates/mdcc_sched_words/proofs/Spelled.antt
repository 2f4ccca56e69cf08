-- What is read is spelled so.
use Rattle.std.proofs.Common.{◌≡◌, ℕ, zero, suc, ◌+◌, ◌-◌, ◌*◌, ◌/◌, ◌%◌, ◌^◌, ◌<◌, ◌≤◌, ◌==◌, ◌&&◌, ◌||◌, ◌⊎◌, inl, inr, Bool, true, false, not, cond, nat_le, nat_abs, int_lt, int_le, ℤ, pos, negsuc, neg_ℤ, List, [], ◌∷◌, ◌++◌, length, drop, get_or, slice_index, map, flat_map, Option, Some, None, Result, Ok, refl, sym, ap, ◌∙◌, arith, codes, append-nil, lit<, ne_eqb, true≢false}
use Rattle.std.specs.Fmt.{decimal, signed_decimal, digit_glyph}
use Rattle.std.specs.List.{join_with_byte}
use Rattle.std.specs.Str.{all_ascii_digits}
use Rattle.std.specs.Str.Parse.{digits_value, signed_digits_value, without_leading_sign, without_leading_plus}
use Rattle.std.specs.Cmp.Lexicographic.{same_text}
use Rattle.std.proofs.lemmas.Bool.{and_parts, or_cases, eqb-true, ltb-true, leb-true, le-ltb, lt-ltb}
use Rattle.std.proofs.lemmas.Bool.Decides.{nat_tests}
use Rattle.std.proofs.lemmas.Fmt.{decimal-digits_value, decimal_digit}
use Rattle.std.proofs.lemmas.List.Splits.{join_with_byte-slice_split}
use Rattle.std.proofs.lemmas.Str.Parse.{digit_from_value}
use Rattle.mdcc_option.specs.declared.items.Item.{Item}
use Rattle.mdcc_def_language.specs.declared.events.UpdateWord.{UpdateWord}
use Rattle.mdcc_def_language.specs.declared.events.UpdateWord.TheVariants.{New, Set, Keep}
use Rattle.mdcc_def_language.specs.declared.schedule.SchedFault.{SchedFault}
use Rattle.mdcc_def_language.specs.declared.schedule.SchedCause.TheVariants.{Word, Number, Key, Range}
use Rattle.mdcc_def_language.specs.Report.{byte_text, body_text, values_text}
use Rattle.mdcc_def_language.specs.Updates.{parse_amount, amounts_from, parse_amounts, parse_add, parse_item, parse_new, parse_set, parse_keep, begins_update, update_of}
use Rattle.mdcc_def_language.specs.Words.{refused, text_eq, part_at, part_end, parts_from, start_after, end_at, are_plain_digits, is_negative, within, number_of, natural_of, count_of, value_of, is_key, key_of, hex_digit_of, hex_byte_by, onto_bytes, hex_bytes_of, body_decoded, body_of, values_from, values_of}
use Rattle.mdcc_sched_words.specs.Spelled.{amount_text, item_text, update_text}
use Rattle.mdcc_sched_words.proofs.Numerals.{model, plain_digits, plain_numeral, no_sign}
use Rattle.mdcc_sched_words.proofs.Seams.{bind_ok, guard_ok, part_seam, front_seam, behind_ok, end_ok}

-- ---- numbers

lone_zero : (word : List ℕ) → are_plain_digits word ≡ true → get_or word 0 0 ≡ 48 → length word ≡ 1
lone_zero [] e z = absurd (cc)
lone_zero (b ∷ []) e z = refl
lone_zero (b ∷ c ∷ bs) e z =
    let parts = and_parts (not (b == 48)) (all_ascii_digits (b ∷ c ∷ bs)) e in
    let same : b ≡ 48 = z in
    absurd (grind (arith, nat_tests, parts.0, same))

plain_spelled : (word : List ℕ) → are_plain_digits word ≡ true → digits_value 10 word < 2 ^ 64 → decimal (digits_value 10 word) ≡ word
plain_spelled word e small =
    let parts = plain_digits word e in
    decimal-digits_value model word parts.0 parts.1 (lone_zero word e) small

plain_value : (word : List ℕ) → are_plain_digits word ≡ true → signed_digits_value 10 word ≡ pos (digits_value 10 word)
plain_value [] e = absurd (cc)
plain_value (b ∷ bs) e =
    let word : List ℕ = b ∷ bs in
    let h = plain_numeral word e in
    let digit = digit_from_value b h.1.0 in
    ap (λ t. cond t (neg_ℤ (pos (digits_value 10 (without_leading_sign word)))) (pos (digits_value 10 (without_leading_sign word)))) (ne_eqb b 45 (λ e. omega (arith, digit.0)))
    ∙ ap (λ ds. pos (digits_value 10 ds)) (no_sign word h)

same_pos : (m n : ℕ) → (let z : ℤ = pos m in z ≡ pos n) → m ≡ n
same_pos m n e = cc

within_ok : (column : ℕ) (low high value z : ℤ) → within column low high value ≡ Ok z → (int_le low value ≡ true) × (int_le value high ≡ true) × (value ≡ z)
within_ok column low high value z e =
    let first = guard_ok (int_le low value && int_le value high) (Ok value) column Range z e in
    let parts = and_parts (int_le low value) (int_le value high) first.0 in
    (parts.0, parts.1, cc (first.1))

pub natural_spelled : (word : List ℕ) (column low high n : ℕ) → high < 2 ^ 64 → natural_of word column low high ≡ Ok n → word ≡ decimal n
natural_spelled word column low high n small e =
    let found = bind_ok (number_of word column (pos low) (pos high)) _ n e in
    let told = guard_ok (are_plain_digits word || (int_lt (pos low) (pos 0) && is_negative word)) (within column (pos low) (pos high) (signed_digits_value 10 word)) column Number found.0 found.1 in
    let ranged = within_ok column (pos low) (pos high) (signed_digits_value 10 word) found.0 told.1 in
    by (or_cases (are_plain_digits word) (int_lt (pos low) (pos 0) && is_negative word) told.0) found.0 ranged found.2
  where
    by : (are_plain_digits word ≡ true) ⊎ ((int_lt (pos low) (pos 0) && is_negative word) ≡ true) → (z : ℤ)
        → (int_le (pos low) (signed_digits_value 10 word) ≡ true) × (int_le (signed_digits_value 10 word) (pos high) ≡ true) × (signed_digits_value 10 word ≡ z)
        → (let r : Result ℕ SchedFault = Ok (nat_abs z) in r ≡ Ok n) → word ≡ decimal n
    by (inl plain) z ranged e =
        let value = plain_value word plain in
        let top : int_le (pos (digits_value 10 word)) (pos high) ≡ true = rw value at ranged.1 in
        let below : digits_value 10 word < 2 ^ 64 = omega (arith, leb-true (digits_value 10 word) high top) in
        let same : nat_abs z ≡ n = cc (e) in
        let is : digits_value 10 word ≡ n = ap nat_abs (sym value ∙ ranged.2) ∙ same in
        sym (plain_spelled word plain below) ∙ ap decimal is
    by (inr negative) z ranged e =
        let parts = and_parts (int_lt (pos low) (pos 0)) (is_negative word) negative in
        absurd (omega (arith, ltb-true low 0 parts.0))

pub count_spelled : (word : List ℕ) (column n : ℕ) → count_of word column ≡ Ok n → word ≡ decimal n
count_spelled word column n e = natural_spelled word column 1 (2 ^ 32 - 1) n (lit< tt) e

-- digits behind a minus
minus_by : (bs : List ℕ) (v : ℕ) → decimal v ≡ bs → not (slice_index bs 0 == 48) ≡ true → 45 ∷ bs ≡ signed_decimal (neg_ℤ (pos v))
minus_by bs zero e h =
    let zeros : bs ≡ 48 ∷ [] = sym e ∙ decimal_digit 0 (lit< tt) in
    let first : not (slice_index (48 ∷ []) 0 == 48) ≡ true = rw zeros at h in
    absurd (true≢false (sym first))
minus_by bs (suc v) e h = ap (λ ds. 45 ∷ ds) (sym e)

least_by : (v : ℕ) → int_le (negsuc (2 ^ 63 - 1)) (neg_ℤ (pos v)) ≡ true → v < 2 ^ 64
least_by zero e = lit< tt
least_by (suc v) e = let bound : v ≤ 2 ^ 63 - 1 = leb-true v (2 ^ 63 - 1) e in omega (arith, bound)

negative_value : (word : List ℕ) (z : ℤ) → is_negative word ≡ true → signed_digits_value 10 word ≡ z → int_le (negsuc (2 ^ 63 - 1)) z ≡ true → word ≡ signed_decimal z
negative_value [] z e value low = absurd (cc)
negative_value (b ∷ bs) z e value low =
    let parts = and_parts (b == 45) (are_plain_digits bs && not (slice_index bs 0 == 48)) e in
    let digits = and_parts (are_plain_digits bs) (not (slice_index bs 0 == 48)) parts.1 in
    let sign : b ≡ 45 = eqb-true b 45 parts.0 in
    let rest : without_leading_sign (b ∷ bs) ≡ bs = ap (λ t. cond t bs (without_leading_plus (b ∷ bs))) parts.0 in
    let is : signed_digits_value 10 (b ∷ bs) ≡ neg_ℤ (pos (digits_value 10 bs)) =
    ap (λ t. cond t (neg_ℤ (pos (digits_value 10 (without_leading_sign (b ∷ bs))))) (pos (digits_value 10 (without_leading_sign (b ∷ bs))))) parts.0
    ∙ ap (λ ds. neg_ℤ (pos (digits_value 10 ds))) rest in
    let at : z ≡ neg_ℤ (pos (digits_value 10 bs)) = sym value ∙ is in
    let bound : digits_value 10 bs < 2 ^ 64 = least_by (digits_value 10 bs) (rw at at low) in
    ap (λ c. c ∷ bs) sign ∙ minus_by bs (digits_value 10 bs) (plain_spelled bs digits.0 bound) digits.1 ∙ ap signed_decimal (sym at)

pub value_spelled : (word : List ℕ) (column : ℕ) (z : ℤ) → value_of word column ≡ Ok z → word ≡ signed_decimal z
value_spelled word column z e =
    let low : ℤ = negsuc (2 ^ 63 - 1) in
    let high : ℤ = pos (2 ^ 63 - 1) in
    let told = guard_ok (are_plain_digits word || (int_lt low (pos 0) && is_negative word)) (within column low high (signed_digits_value 10 word)) column Number z e in
    by (or_cases (are_plain_digits word) (int_lt low (pos 0) && is_negative word) told.0) (within_ok column low high (signed_digits_value 10 word) z told.1)
  where
    by : (are_plain_digits word ≡ true) ⊎ ((int_lt (negsuc (2 ^ 63 - 1)) (pos 0) && is_negative word) ≡ true)
        → (int_le (negsuc (2 ^ 63 - 1)) (signed_digits_value 10 word) ≡ true) × (int_le (signed_digits_value 10 word) (pos (2 ^ 63 - 1)) ≡ true) × (signed_digits_value 10 word ≡ z)
        → word ≡ signed_decimal z
    by (inl plain) ranged =
        let value = plain_value word plain in
        let top : int_le (pos (digits_value 10 word)) (pos (2 ^ 63 - 1)) ≡ true = rw value at ranged.1 in
        let below : digits_value 10 word < 2 ^ 64 = omega (arith, leb-true (digits_value 10 word) (2 ^ 63 - 1) top) in
        sym (plain_spelled word plain below) ∙ ap signed_decimal (sym value ∙ ranged.2)
    by (inr negative) ranged =
        let parts = and_parts (int_lt (negsuc (2 ^ 63 - 1)) (pos 0)) (is_negative word) negative in
        negative_value word z parts.1 ranged.2 (rw ranged.2 at ranged.0)

-- ---- values

each_value : (left column : ℕ) (parts : List (List ℕ)) (values : List ℤ) → values_from left column parts ≡ Ok values → parts ≡ map signed_decimal values
each_value left column [] [] e = refl
each_value left column [] (value ∷ values) e = absurd (cc)
each_value zero column (part ∷ parts) values e = absurd (cc)
each_value (suc left) column (part ∷ parts) values e =
    let one = bind_ok (value_of part column) _ values e in
    let rest = bind_ok (values_from left (column + length part + 1) parts) _ values one.2 in
    let all : one.0 ∷ rest.0 ≡ values = cc (rest.2) in
    (λ i. value_spelled part column one.0 one.1 i ∷ each_value left (column + length part + 1) parts rest.0 rest.1 i) ∙ ap (map signed_decimal) all

pub values_spelled : (word : List ℕ) (column : ℕ) (values : List ℤ) → values_of word column ≡ Ok values → word ≡ values_text values
values_spelled word column values e =
    sym (join_with_byte-slice_split 44 word) ∙ ap (join_with_byte 44) (each_value 4 column (parts_from 44 0 word) values e)

-- ---- amounts

amount_spelled : (word : List ℕ) (column : ℕ) (amount : ℕ × ℤ) → parse_amount word column ≡ Ok amount → word ≡ amount_text amount
amount_spelled word column amount e =
    let attribute = bind_ok (natural_of (part_at 61 0 word) column 1 4) _ amount e in
    let start = bind_ok (start_after 61 (part_end 61 0 word) word column) _ amount attribute.2 in
    let value = bind_ok (value_of (part_at 61 start.0 word) (column + start.0)) _ amount start.2 in
    let end = bind_ok (end_at (part_end 61 start.0 word) word column) _ amount value.2 in
    let made : ℕ × ℤ = (attribute.0, value.0) in
    let same : made ≡ amount = cc (end.2) in
    let last : drop start.0 word ≡ signed_decimal value.0 =
    part_seam 61 start.0 word
    ∙ (λ i. value_spelled (part_at 61 start.0 word) (column + start.0) value.0 value.1 i ++ end_ok (part_end 61 start.0 word) word column end.0 end.1 i)
    ∙ append-nil (signed_decimal value.0) in
    part_seam 61 0 word
    ∙ (λ i. natural_spelled (part_at 61 0 word) column 1 4 attribute.0 (lit< tt) attribute.1 i ++ behind_ok 61 (part_end 61 0 word) word column start.0 start.1 i)
    ∙ ap (λ rest. decimal attribute.0 ++ (61 ∷ rest)) last
    ∙ ap amount_text same

each_amount : (left column : ℕ) (parts : List (List ℕ)) (amounts : List (ℕ × ℤ)) → amounts_from left column parts ≡ Ok amounts → parts ≡ map amount_text amounts
each_amount left column [] [] e = refl
each_amount left column [] (amount ∷ amounts) e = absurd (cc)
each_amount zero column (part ∷ parts) amounts e = absurd (cc)
each_amount (suc left) column (part ∷ parts) amounts e =
    let one = bind_ok (parse_amount part column) _ amounts e in
    let rest = bind_ok (amounts_from left (column + length part + 1) parts) _ amounts one.2 in
    let all : one.0 ∷ rest.0 ≡ amounts = cc (rest.2) in
    (λ i. amount_spelled part column one.0 one.1 i ∷ each_amount left (column + length part + 1) parts rest.0 rest.1 i) ∙ ap (map amount_text) all

amounts_spelled : (word : List ℕ) (column : ℕ) (amounts : List (ℕ × ℤ)) → parse_amounts word column ≡ Ok amounts → word ≡ join_with_byte 44 (map amount_text amounts)
amounts_spelled word column amounts e =
    sym (join_with_byte-slice_split 44 word) ∙ ap (join_with_byte 44) (each_amount 4 column (parts_from 44 0 word) amounts e)

-- ---- bodies

glyph_by : (b d : ℕ) → hex_digit_of b ≡ Some d → (digit_glyph false d ≡ b) × (d < 16)
glyph_by b d e = by (nat_le 48 b && nat_le b 57) refl (nat_le 97 b && nat_le b 102) refl e
  where
    by : (digit : Bool) → (nat_le 48 b && nat_le b 57) ≡ digit → (letter : Bool) → (nat_le 97 b && nat_le b 102) ≡ letter
        → cond digit (Some (b - 48)) (cond letter (Some (b - 87)) None) ≡ Some d → (digit_glyph false d ≡ b) × (d < 16)
    by true h letter k e =
        let parts = and_parts (nat_le 48 b) (nat_le b 57) h in
        let same : b - 48 ≡ d = cc (e) in
        let low : 48 ≤ b = leb-true 48 b parts.0 in
        let high : b ≤ 57 = leb-true b 57 parts.1 in
        let glyph : 48 + d ≡ b = omega (arith, same, low) in
        (ap (λ t. cond t (48 + d) (87 + d)) (lt-ltb d 10 (omega (arith, same, high))) ∙ glyph, omega (arith, same, high))
    by false h true k e =
        let parts = and_parts (nat_le 97 b) (nat_le b 102) k in
        let same : b - 87 ≡ d = cc (e) in
        let low : 97 ≤ b = leb-true 97 b parts.0 in
        let high : b ≤ 102 = leb-true b 102 parts.1 in
        let glyph : 87 + d ≡ b = omega (arith, same, low) in
        (ap (λ t. cond t (48 + d) (87 + d)) (le-ltb d 10 (omega (arith, same, low))) ∙ glyph, omega (arith, same, high))
    by false h false k e = absurd (cc)

byte_by : (b c d e : ℕ) → digit_glyph false d ≡ b → d < 16 → digit_glyph false e ≡ c → e < 16 → byte_text (d * 16 + e) ≡ b ∷ c ∷ []
byte_by b c d e h l k m =
    let high : (d * 16 + e) / 16 ≡ d = omega arith in
    let low : (d * 16 + e) % 16 ≡ e = omega arith in
    rw (high, low, h, k) refl

byte_spelled : (b c byte : ℕ) → hex_byte_by (hex_digit_of b) (hex_digit_of c) ≡ Some byte → byte_text byte ≡ b ∷ c ∷ []
byte_spelled b c byte e = by (hex_digit_of b) (hex_digit_of c) refl refl e
  where
    by : (high low : Option ℕ) → hex_digit_of b ≡ high → hex_digit_of c ≡ low → hex_byte_by high low ≡ Some byte → byte_text byte ≡ b ∷ c ∷ []
    by (Some high) (Some low) h k e =
        let same : high * 16 + low ≡ byte = cc (e) in
        let first = glyph_by b high h in
        let second = glyph_by c low k in
        ap byte_text (sym same) ∙ byte_by b c high low first.0 first.1 second.0 second.1
    by (Some high) None h k e = absurd (cc)
    by None low h k e = absurd (cc)

onto_parts : (byte : Option ℕ) (rest : Option (List ℕ)) (bytes : List ℕ) → onto_bytes byte rest ≡ Some bytes → (x : ℕ) × (xs : List ℕ) × (byte ≡ Some x) × (rest ≡ Some xs) × (x ∷ xs ≡ bytes)
onto_parts (Some x) (Some xs) bytes e = (x, xs, refl, refl, cc (e))
onto_parts (Some x) None bytes e = absurd (cc)
onto_parts None rest bytes e = absurd (cc)

hex_spelled : (word bytes : List ℕ) → hex_bytes_of word ≡ Some bytes → word ≡ flat_map byte_text bytes
hex_spelled [] bytes e = let none : [] ≡ bytes = cc (e) in ap (flat_map byte_text) none
hex_spelled (b ∷ []) bytes e = absurd (cc)
hex_spelled (b ∷ c ∷ bs) bytes e =
    let parts = onto_parts (hex_byte_by (hex_digit_of b) (hex_digit_of c)) (hex_bytes_of bs) bytes e in
    let rest : bs ≡ flat_map byte_text parts.1 = hex_spelled bs parts.1 parts.3 in
    (λ i. sym (byte_spelled b c parts.0 parts.2) i ++ rest i) ∙ ap (flat_map byte_text) parts.4

body_by_ok : (found : Option (List ℕ)) (column : ℕ) (bytes : List ℕ) → body_decoded found column ≡ Ok bytes → (found ≡ Some bytes) × (1 ≤ length bytes)
body_by_ok None column bytes e = absurd (cc)
body_by_ok (Some xs) column bytes e =
    let told = guard_ok (nat_le 1 (length xs) && nat_le (length xs) 128) (Ok xs) column Range bytes e in
    let same : xs ≡ bytes = cc (told.1) in
    let parts = and_parts (nat_le 1 (length xs)) (nat_le (length xs) 128) told.0 in
    (ap (λ ys. Some ys) same, rw (← same) (leb-true 1 (length xs) parts.0))

some_body : (bytes : List ℕ) → 1 ≤ length bytes → flat_map byte_text bytes ≡ body_text bytes
some_body [] h = absurd (omega (arith, h))
some_body (b ∷ bs) h = refl

pub body_spelled : (word : List ℕ) (column : ℕ) (bytes : List ℕ) → body_of word column ≡ Ok bytes → word ≡ body_text bytes
body_spelled word column bytes e = by (text_eq word (codes "-")) refl e
  where
    by : (dash : Bool) → text_eq word (codes "-") ≡ dash → cond dash (Ok []) (body_decoded (hex_bytes_of word) column) ≡ Ok bytes → word ≡ body_text bytes
    by true same e = let none : [] ≡ bytes = cc (e) in same_text word (codes "-") (sym same) ∙ ap body_text none
    by false other e =
        let found = body_by_ok (hex_bytes_of word) column bytes e in
        hex_spelled word bytes found.0 ∙ some_body bytes found.1

-- ---- update words

pub key_spelled : (word : List ℕ) (column : ℕ) (key : List ℕ) → key_of word column ≡ Ok key → word ≡ key
key_spelled word column key e =
    let told = guard_ok (is_key word) (Ok word) column Key key e in
    cc (told.1)

pub named : (name word : List ℕ) → begins_update name word ≡ true → word ≡ name ++ drop (length name) word
named name word e =
    let same : part_at 58 0 word ≡ name = same_text (part_at 58 0 word) name (sym e) in
    front_seam 58 word ∙ ap (λ part. part ++ drop (length part) word) same

item_spelled : (at : ℕ) (word : List ℕ) (column : ℕ) (item : Item) → parse_item at word column ≡ Ok item → drop at word ≡ item_text item
item_spelled at word column item e =
    let start = bind_ok (start_after 58 at word column) _ item e in
    let body = bind_ok (body_of (part_at 58 start.0 word) (column + start.0)) _ item start.2 in
    let next = bind_ok (start_after 58 (part_end 58 start.0 word) word column) _ item body.2 in
    let values = bind_ok (values_of (part_at 58 next.0 word) (column + next.0)) _ item next.2 in
    let end = bind_ok (end_at (part_end 58 next.0 word) word column) _ item values.2 in
    let made : Item = record { body = body.0; values = values.0 } in
    let same : made ≡ item = cc (end.2) in
    let last : drop next.0 word ≡ values_text values.0 =
    part_seam 58 next.0 word ∙ (λ i. values_spelled (part_at 58 next.0 word) (column + next.0) values.0 values.1 i ++ end_ok (part_end 58 next.0 word) word column end.0 end.1 i) ∙ append-nil (values_text values.0) in
    let first : drop start.0 word ≡ body_text body.0 ++ (58 ∷ values_text values.0) =
    part_seam 58 start.0 word
    ∙ (λ i. body_spelled (part_at 58 start.0 word) (column + start.0) body.0 body.1 i ++ behind_ok 58 (part_end 58 start.0 word) word column next.0 next.1 i)
    ∙ ap (λ rest. body_text body.0 ++ (58 ∷ rest)) last in
    behind_ok 58 at word column start.0 start.1 ∙ ap (λ rest. 58 ∷ rest) first ∙ ap item_text same

new_spelled : (word : List ℕ) (column : ℕ) (update : UpdateWord) → begins_update (codes "new") word ≡ true → parse_new word column ≡ Ok update → word ≡ update_text update
new_spelled word column update h e =
    let start = bind_ok (start_after 58 3 word column) _ update e in
    let key = bind_ok (key_of (part_at 58 start.0 word) (column + start.0)) _ update start.2 in
    let item = bind_ok (parse_item (part_end 58 start.0 word) word column) _ update key.2 in
    let same : New key.0 item.0 ≡ update = cc (item.2) in
    named (codes "new") word h
    ∙ ap (λ rest. codes "new" ++ rest) (behind_ok 58 3 word column start.0 start.1)
    ∙ ap (λ rest. codes "new:" ++ rest) (part_seam 58 start.0 word
    ∙ (λ i. key_spelled (part_at 58 start.0 word) (column + start.0) key.0 key.1 i ++ item_spelled (part_end 58 start.0 word) word column item.0 item.1 i))
    ∙ ap update_text same

set_spelled : (word : List ℕ) (column : ℕ) (update : UpdateWord) → begins_update (codes "set") word ≡ true → parse_set word column ≡ Ok update → word ≡ update_text update
set_spelled word column update h e =
    let start = bind_ok (start_after 58 3 word column) _ update e in
    let read = bind_ok (count_of (part_at 58 start.0 word) (column + start.0)) _ update start.2 in
    let item = bind_ok (parse_item (part_end 58 start.0 word) word column) _ update read.2 in
    let same : Set read.0 item.0 ≡ update = cc (item.2) in
    named (codes "set") word h
    ∙ ap (λ rest. codes "set" ++ rest) (behind_ok 58 3 word column start.0 start.1)
    ∙ ap (λ rest. codes "set:" ++ rest) (part_seam 58 start.0 word
    ∙ (λ i. count_spelled (part_at 58 start.0 word) (column + start.0) read.0 read.1 i ++ item_spelled (part_end 58 start.0 word) word column item.0 item.1 i))
    ∙ ap update_text same

add_spelled : (word : List ℕ) (column : ℕ) (update : UpdateWord) → begins_update (codes "add") word ≡ true → parse_add word column ≡ Ok update → word ≡ update_text update
add_spelled word column update h e =
    let start = bind_ok (start_after 58 3 word column) _ update e in
    let read = bind_ok (count_of (part_at 58 start.0 word) (column + start.0)) _ update start.2 in
    let next = bind_ok (start_after 58 (part_end 58 start.0 word) word column) _ update read.2 in
    let amounts = bind_ok (parse_amounts (part_at 58 next.0 word) (column + next.0)) _ update next.2 in
    let end = bind_ok (end_at (part_end 58 next.0 word) word column) _ update amounts.2 in
    let same : UpdateWord.Add read.0 amounts.0 ≡ update = cc (end.2) in
    let last : drop next.0 word ≡ join_with_byte 44 (map amount_text amounts.0) =
    part_seam 58 next.0 word
    ∙ (λ i. amounts_spelled (part_at 58 next.0 word) (column + next.0) amounts.0 amounts.1 i ++ end_ok (part_end 58 next.0 word) word column end.0 end.1 i)
    ∙ append-nil (join_with_byte 44 (map amount_text amounts.0)) in
    named (codes "add") word h
    ∙ ap (λ rest. codes "add" ++ rest) (behind_ok 58 3 word column start.0 start.1)
    ∙ ap (λ rest. codes "add:" ++ rest) (part_seam 58 start.0 word
    ∙ (λ i. count_spelled (part_at 58 start.0 word) (column + start.0) read.0 read.1 i ++ behind_ok 58 (part_end 58 start.0 word) word column next.0 next.1 i)
    ∙ ap (λ rest. decimal read.0 ++ (58 ∷ rest)) last)
    ∙ ap update_text same

keep_spelled : (word : List ℕ) (column : ℕ) (update : UpdateWord) → begins_update (codes "keep") word ≡ true → parse_keep word column ≡ Ok update → word ≡ update_text update
keep_spelled word column update h e =
    let start = bind_ok (start_after 58 4 word column) _ update e in
    let read = bind_ok (count_of (part_at 58 start.0 word) (column + start.0)) _ update start.2 in
    let end = bind_ok (end_at (part_end 58 start.0 word) word column) _ update read.2 in
    let same : Keep read.0 ≡ update = cc (end.2) in
    named (codes "keep") word h
    ∙ ap (λ rest. codes "keep" ++ rest) (behind_ok 58 4 word column start.0 start.1)
    ∙ ap (λ rest. codes "keep:" ++ rest) (part_seam 58 start.0 word
    ∙ (λ i. count_spelled (part_at 58 start.0 word) (column + start.0) read.0 read.1 i ++ end_ok (part_end 58 start.0 word) word column end.0 end.1 i)
    ∙ append-nil (decimal read.0))
    ∙ ap update_text same

pub update_spelled : (word : List ℕ) (column : ℕ) (update : UpdateWord) → update_of word column ≡ Ok update → word ≡ update_text update
update_spelled word column update e = by (begins_update (codes "new") word) refl (begins_update (codes "set") word) refl (begins_update (codes "add") word) refl (begins_update (codes "keep") word) refl e
  where
    by : (new : Bool) → begins_update (codes "new") word ≡ new → (set : Bool) → begins_update (codes "set") word ≡ set
        → (add : Bool) → begins_update (codes "add") word ≡ add → (keep : Bool) → begins_update (codes "keep") word ≡ keep
        → cond new (parse_new word column) (cond set (parse_set word column) (cond add (parse_add word column) (cond keep (parse_keep word column) (refused column Word)))) ≡ Ok update → word ≡ update_text update
    by true h set k add l keep m e = new_spelled word column update h e
    by false h true k add l keep m e = set_spelled word column update k e
    by false h false k true l keep m e = add_spelled word column update l e
    by false h false k false l true m e = keep_spelled word column update m e
    by false h false k false l false m e = absurd (cc)
