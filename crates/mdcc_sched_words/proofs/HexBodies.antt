-- A body has one byte for each two digits.
use Rattle.std.proofs.Common.{ℕ, ◌*◌, ◌<◌, ◌≤◌, List, [], ◌∷◌, length, nat_le, Option, Some, None, IfSome, drop, slice_index, ◌++◌, ◌==◌, if◌then◌else◌, ◌≡◌, refl, sym, ap, ◌∙◌, arith, Ok, cond, suc}
use Rattle.std.proofs.lemmas.Bool.{lt-leb, and_right}
use Rattle.mdcc_def_language.specs.declared.schedule.SchedCause.TheVariants.{Range}
use Rattle.mdcc_sched_words.proofs.Onto.{onto_some, onto_some_more}
use Rattle.mdcc_def_language.specs.Words.{refused, hex_digit_of, hex_byte_by, onto_bytes, hex_bytes_of, body_decoded}

half_more : (byte : Option ℕ) (rest : Option (List ℕ)) (size : ℕ) → IfSome rest (λ bytes. 2 * length bytes ≡ size) → IfSome (onto_bytes byte rest) (λ bytes. 2 * length bytes ≡ suc (suc size))
half_more (Some byte) (Some bytes) size h = omega (arith, h)
half_more (Some byte) None size h = tt
half_more None rest size h = tt

pub half_as_long : (word : List ℕ) → IfSome (hex_bytes_of word) (λ bytes. 2 * length bytes ≡ length word)
half_as_long [] = refl
half_as_long (b ∷ []) = tt
half_as_long (b ∷ c ∷ bs) = half_more (hex_byte_by (hex_digit_of b) (hex_digit_of c)) (hex_bytes_of bs) (length bs) (half_as_long bs)

long_by : (bytes : Option (List ℕ)) (size column : ℕ) → IfSome bytes (λ bytes. 2 * length bytes ≡ size) → 256 < size → body_decoded bytes column ≡ refused column Range
long_by None size column h long = refl
long_by (Some bytes) size column h long =
    ap (λ t. cond t (Ok bytes) (refused column Range)) (and_right (nat_le 1 (length bytes)) (nat_le (length bytes) 128) (lt-leb (length bytes) 128 (omega (arith, h))))

-- a body of more than 256 digits has too many bytes, or is none
pub long_body : (word : List ℕ) (column : ℕ) → 256 < length word → body_decoded (hex_bytes_of word) column ≡ refused column Range
long_body word column long = long_by (hex_bytes_of word) (length word) column (half_as_long word) long

-- the first two digits, and those behind them
pub hex_step : (word : List ℕ) → 2 ≤ length word
    → hex_bytes_of word ≡ onto_bytes (hex_byte_by (hex_digit_of (slice_index word 0)) (hex_digit_of (slice_index word 1))) (hex_bytes_of (drop 2 word))
hex_step [] h = absurd (omega (arith, h))
hex_step (b ∷ []) h = absurd (omega (arith, h))
hex_step (b ∷ c ∷ bs) h = refl

-- one digit alone is no byte
pub hex_end : (word : List ℕ) → length word < 2 → hex_bytes_of word ≡ (if length word == 0 then Some [] else None)
hex_end [] h = refl
hex_end (b ∷ []) h = refl
hex_end (b ∷ c ∷ bs) h = absurd (omega (arith, h))

pub hex_read : (whole : Option (List ℕ)) (bytes : List ℕ) (byte : ℕ) (word : List ℕ) → 2 ≤ length word → onto_some bytes (hex_bytes_of word) ≡ whole
    → hex_byte_by (hex_digit_of (slice_index word 0)) (hex_digit_of (slice_index word 1)) ≡ Some byte
    → onto_some (bytes ++ byte ∷ []) (hex_bytes_of (drop 2 word)) ≡ whole
hex_read whole bytes byte word two same e =
    onto_some_more bytes byte (hex_bytes_of (drop 2 word))
    ∙ ap (λ found. onto_some bytes (onto_bytes found (hex_bytes_of (drop 2 word)))) (sym e)
    ∙ ap (onto_some bytes) (sym (hex_step word two))
    ∙ same

pub hex_refused : (whole : Option (List ℕ)) (bytes word : List ℕ) → 2 ≤ length word → onto_some bytes (hex_bytes_of word) ≡ whole
    → hex_byte_by (hex_digit_of (slice_index word 0)) (hex_digit_of (slice_index word 1)) ≡ None
    → None ≡ whole
hex_refused whole bytes word two same e =
    sym (ap (λ found. onto_some bytes (onto_bytes found (hex_bytes_of (drop 2 word)))) e)
    ∙ ap (onto_some bytes) (sym (hex_step word two))
    ∙ same
