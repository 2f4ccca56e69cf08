-- Bodies and lists that are written are read.
use Rattle.std.proofs.Common.{◌≡◌, ℕ, ◌+◌, ◌-◌, ◌/◌, ◌%◌, ◌<◌, ◌≤◌, ◌&&◌, inl, inr, Bool, true, false, cond, nat_le, nat_lt, List, [], ◌∷◌, flat_map, Option, Some, None, refl, ap, ◌∙◌, arith}
use Rattle.std.specs.Fmt.{digit_glyph}
use Rattle.std.specs.List.{list_all}
use Rattle.std.proofs.lemmas.Bool.{and_from, and_parts, cases_lt, le-leb, lt-leb, lt-ltb, le-ltb}
use Rattle.std.proofs.lemmas.Bool.Decides.{nat_tests}
use Rattle.mdcc_def_language.specs.Report.{byte_text}
use Rattle.mdcc_def_language.specs.Words.{hex_byte_by, hex_bytes_of, hex_digit_of, onto_bytes}

digit-read : (d : ℕ) → d < 16 → hex_digit_of (digit_glyph false d) ≡ Some d
digit-read d h =
    elim (cases_lt d 10) [
      | inl low ↦ ap (λ t. hex_digit_of (cond t (48 + d) (87 + d))) (lt-ltb d 10 low) ∙ small low
      | inr high ↦ ap (λ t. hex_digit_of (cond t (48 + d) (87 + d))) (le-ltb d 10 high) ∙ large high
    ]
  where
    small : d < 10 → hex_digit_of (48 + d) ≡ Some d
    small low =
        ap (λ t. cond t (Some (48 + d - 48)) (cond (nat_le 97 (48 + d) && nat_le (48 + d) 102) (Some (48 + d - 87)) None)) (and_from (nat_le 48 (48 + d)) (nat_le (48 + d) 57) (le-leb 48 (48 + d) (omega arith)) (le-leb (48 + d) 57 (omega (arith, low))))
        ∙ ap (λ n. Some n) (omega arith)

    second : 10 ≤ d → (nat_le 48 (87 + d) && nat_le (87 + d) 57) ≡ false
    second high = ap (λ t. nat_le 48 (87 + d) && t) (lt-leb (87 + d) 57 (omega (arith, high))) ∙ and-no (nat_le 48 (87 + d))
      where
        and-no : (b : Bool) → (b && false) ≡ false
        and-no true = refl
        and-no false = refl

    large : 10 ≤ d → hex_digit_of (87 + d) ≡ Some d
    large high =
        ap (λ t. cond t (Some (87 + d - 48)) (cond (nat_le 97 (87 + d) && nat_le (87 + d) 102) (Some (87 + d - 87)) None)) (second high)
        ∙ ap (λ t. cond t (Some (87 + d - 87)) None) (and_from (nat_le 97 (87 + d)) (nat_le (87 + d) 102) (le-leb 97 (87 + d) (omega (arith, high))) (le-leb (87 + d) 102 (omega (arith, h))))
        ∙ ap (λ n. Some n) (omega arith)

pub bytes-read : (bs : List ℕ) → list_all (λ b. nat_lt b 256) bs ≡ true → hex_bytes_of (flat_map byte_text bs) ≡ Some bs
bytes-read [] h = refl
bytes-read (b ∷ bs) h =
    let parts = and_parts (nat_lt b 256) (list_all (λ b. nat_lt b 256) bs) h in
    let small : b < 256 = grind (arith, nat_tests) in
    (λ i. onto_bytes (hex_byte_by (digit-read (b / 16) (omega (arith, small)) i) (digit-read (b % 16) (omega arith) i)) (bytes-read bs parts.1 i))
    ∙ ap (λ n. let o : Option (List ℕ) = Some (n ∷ bs) in o) (omega arith)
