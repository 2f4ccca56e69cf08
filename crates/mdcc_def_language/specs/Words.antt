-- How the words of a schedule are read: the value, or why and where the word is refused. Columns count from 1.
use Rattle.std.specs.Prelude.{ℕ, zero, suc, ◌+◌, ◌*◌, ◌-◌, ◌^◌, ◌==◌, nat_le, nat_eq, ℤ, pos, negsuc, nat_abs, int_lt, int_le, Bool, false, not, ◌&&◌, ◌||◌, if◌then◌else◌, List, [], ◌∷◌, length, take, drop, codes, slice_index, slice_get, position, unwrap_or, Option, Some, None, Result, Ok, Err}
use Rattle.std.specs.Cmp.Lexicographic.{pointwise}
use Rattle.std.specs.List.{slice_split, list_all}
use Rattle.std.specs.Str.{all_ascii_digits}
use Rattle.std.specs.Str.Parse.{signed_digits_value}
use Rattle.mdcc_base.specs.Key.{is_key_byte}
use Rattle.mdcc_def_language.specs.declared.schedule.SchedFault.{SchedFault}
use Rattle.mdcc_def_language.specs.declared.schedule.SchedCause.{SchedCause}
use Rattle.mdcc_def_language.specs.declared.schedule.SchedCause.TheVariants.{Word, Number, Key, Range}

infixl 10 ◌>>=◌
-- the first value, and then what the second makes of it, unless one is refused
abbrev pub ◌>>=◌ : {A B E : Type 0} → Result A E → (A → Result B E) → Result B E
(Ok x) >>= next = next x
(Err fault) >>= next = Err fault

abbrev pub refused : {A : Type 0} → ℕ → SchedCause → Result A SchedFault
refused column cause = Err (record { column = column; cause = cause })

-- whether two texts are one
abbrev pub text_eq : List ℕ → List ℕ → Bool
text_eq = pointwise nat_eq

-- ---- places in a text, which count from 0

-- how many bytes stand before the first separator
abbrev pub part_len : ℕ → List ℕ → ℕ
part_len separator rest = unwrap_or (position (λ b. b == separator) rest) (length rest)

-- the bytes from a place up to the next separator
abbrev pub part_at : ℕ → ℕ → List ℕ → List ℕ
part_at separator at text = take (part_len separator (drop at text)) (drop at text)

-- the place behind these bytes
abbrev pub part_end : ℕ → ℕ → List ℕ → ℕ
part_end separator at text = at + length (part_at separator at text)

-- the parts from a place on, all of them
abbrev pub parts_from : ℕ → ℕ → List ℕ → List (List ℕ)
parts_from separator at text = slice_split (λ b. b == separator) (drop at text)

abbrev pub is_separator : ℕ → Option ℕ → Bool
is_separator separator None = false
is_separator separator (Some b) = b == separator

-- the place behind the separator that stands at a place of a text; the text begins at a column
abbrev pub start_after : ℕ → ℕ → List ℕ → ℕ → Result ℕ SchedFault
start_after separator at text column =
    if is_separator separator (slice_get text at) then Ok (at + 1) else refused (column + at) Word

-- the last part of a text ends at this place, and the text with it; else a part is too much
abbrev pub end_at : ℕ → List ℕ → ℕ → Result (Unit {0}) SchedFault
end_at at text column = if at == length text then Ok tt else refused (column + at + 1) Word

-- ---- words of a line, which are separated by one space

abbrev pub word_at : ℕ → List ℕ → List ℕ
word_at at line = part_at 32 at line

abbrev pub word_end : ℕ → List ℕ → ℕ
word_end at line = part_end 32 at line

-- an empty word is a separator too much
abbrev pub not_empty : List ℕ → ℕ → Result (Unit {0}) SchedFault
not_empty [] column = refused column Word
not_empty (b ∷ bs) column = Ok tt

-- the place of the next word, behind the space at a place
abbrev pub word_after : ℕ → List ℕ → Result ℕ SchedFault
word_after at line = (do
  start ← start_after 32 at line 1
  _ ← not_empty (word_at start line) (start + 1)
  Ok start)

-- ---- numbers

-- digits without a leading zero, at least one
abbrev pub are_plain_digits : List ℕ → Bool
are_plain_digits [] = false
are_plain_digits (b ∷ []) = all_ascii_digits (b ∷ [])
are_plain_digits (b ∷ c ∷ bs) = not (b == 48) && all_ascii_digits (b ∷ c ∷ bs)

-- a minus before such digits; 0 has no sign
abbrev pub is_negative : List ℕ → Bool
is_negative [] = false
is_negative (b ∷ bs) = b == 45 && (are_plain_digits bs && not (slice_index bs 0 == 48))

abbrev pub within : ℕ → ℤ → ℤ → ℤ → Result ℤ SchedFault
within column low high value = if int_le low value && int_le value high then Ok value else refused column Range

-- a number from low to high; it may have a sign only where low is below 0
abbrev pub number_of : List ℕ → ℕ → ℤ → ℤ → Result ℤ SchedFault
number_of word column low high =
    if are_plain_digits word || (int_lt low (pos 0) && is_negative word)
    then within column low high (signed_digits_value 10 word) else refused column Number

-- a number that is not negative, as one
abbrev pub natural_of : List ℕ → ℕ → ℕ → ℕ → Result ℕ SchedFault
natural_of word column low high = number_of word column (pos low) (pos high) >>= λ number. Ok (nat_abs number)

-- the number of a message or of a read
abbrev pub count_of : List ℕ → ℕ → Result ℕ SchedFault
count_of word column = natural_of word column 1 (2 ^ 32 - 1)

-- a value, an amount or a bound, which has 64 bits
abbrev pub value_of : List ℕ → ℕ → Result ℤ SchedFault
value_of word column = number_of word column (negsuc (2 ^ 63 - 1)) (pos (2 ^ 63 - 1))

-- ---- keys

abbrev pub is_key : List ℕ → Bool
is_key word = nat_le 1 (length word) && (nat_le (length word) 32 && list_all is_key_byte word)

abbrev pub key_of : List ℕ → ℕ → Result (List ℕ) SchedFault
key_of word column = if is_key word then Ok word else refused column Key

-- ---- bodies

-- the value of a digit of a hexadecimal number, in lower case
abbrev pub hex_digit_of : ℕ → Option ℕ
hex_digit_of b =
    if nat_le 48 b && nat_le b 57 then Some (b - 48) else (if nat_le 97 b && nat_le b 102 then Some (b - 87) else None)

abbrev pub hex_byte_by : Option ℕ → Option ℕ → Option ℕ
hex_byte_by (Some high) (Some low) = Some (high * 16 + low)
hex_byte_by _ _ = None

abbrev pub onto_bytes : Option ℕ → Option (List ℕ) → Option (List ℕ)
onto_bytes (Some byte) (Some bytes) = Some (byte ∷ bytes)
onto_bytes _ _ = None

-- the bytes that pairs of such digits spell
abbrev pub hex_bytes_of : List ℕ → Option (List ℕ)
hex_bytes_of [] = Some []
hex_bytes_of (b ∷ []) = None
hex_bytes_of (b ∷ c ∷ bs) = onto_bytes (hex_byte_by (hex_digit_of b) (hex_digit_of c)) (hex_bytes_of bs)

-- a body that is spelled has 1 to 128 bytes
abbrev pub body_decoded : Option (List ℕ) → ℕ → Result (List ℕ) SchedFault
body_decoded None column = refused column Range
body_decoded (Some bytes) column =
    if nat_le 1 (length bytes) && nat_le (length bytes) 128 then Ok bytes else refused column Range

-- a body: `-` is the empty one
abbrev pub body_of : List ℕ → ℕ → Result (List ℕ) SchedFault
body_of word column = if text_eq word (codes "-") then Ok [] else body_decoded (hex_bytes_of word) column

-- ---- values

-- the values of parts, the first of which stands at a column; where no more are allowed the next one is out of range
abbrev pub values_from : ℕ → ℕ → List (List ℕ) → Result (List ℤ) SchedFault
values_from left column [] = Ok []
values_from zero column (part ∷ parts) = refused column Range
values_from (suc left) column (part ∷ parts) = (do
  value ← value_of part column
  values ← values_from left (column + length part + 1) parts
  Ok (value ∷ values))

-- 1 to 4 values with commas between them
abbrev pub values_of : List ℕ → ℕ → Result (List ℤ) SchedFault
values_of word column = values_from 4 column (parts_from 44 0 word)
