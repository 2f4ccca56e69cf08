-- The parts of a text, one after another.
use Rattle.std.proofs.Common.{ℕ, suc, ◌+◌, ◌≤◌, ◌<◌, ◌==◌, Bool, true, false, not, cond, List, [], ◌∷◌, length, take, drop, nat_le, nat_lt, if◌then◌else◌, ◌≡◌, refl, sym, ap, ◌∙◌, arith, drop-drop, length-drop, length-take-le, unwrap_or, Some, None, ◌⊎◌, inl, inr}
use Rattle.std.specs.List.{slice_split, onto_first, position_or_len}
use Rattle.std.proofs.lemmas.Bool.{cases_lt, le-leb, lt-leb, lt-ltb, le-ltb}
use Rattle.std.proofs.lemmas.Bool.Decides.{nat_tests}
use Rattle.mdcc_def_language.specs.Words.{part_len, part_at, parts_from}

-- the parts from a place on; behind the end of the text there is none
abbrev pub parts_left : ℕ → ℕ → List ℕ → List (List ℕ)
parts_left separator at text = if nat_le at (length text) then parts_from separator at text else []

within_by : (x : ℕ) (xs : List ℕ) (place : ℕ) (b : Bool) → place ≤ length xs → cond (not b) (1 + place) 0 ≤ length (x ∷ xs)
within_by x xs place true h = omega arith
within_by x xs place false h = omega (arith, h)

pub place_within : (p : ℕ → Bool) (xs : List ℕ) → position_or_len p xs ≤ length xs
place_within p [] = omega arith
place_within p (x ∷ xs) = within_by x xs (position_or_len p xs) (p x) (place_within p xs)

-- what `slice_split` gives, where the first separator stands at this place
abbrev first_by : (ℕ → Bool) → List ℕ → ℕ → List (List ℕ)
first_by p xs place = take place xs ∷ cond (nat_lt place (length xs)) (slice_split p (drop (place + 1) xs)) []

lt_more : (a b : ℕ) → nat_lt (suc a) (suc b) ≡ nat_lt a b
lt_more a b = by (cases_lt a b)
  where
    by : (a < b) ⊎ (b ≤ a) → nat_lt (suc a) (suc b) ≡ nat_lt a b
    by (inl h) = lt-ltb (suc a) (suc b) (omega (arith, h)) ∙ sym (lt-ltb a b h)
    by (inr h) = le-ltb (suc a) (suc b) (omega (arith, h)) ∙ sym (le-ltb a b h)

first_more : (p : ℕ → Bool) (x : ℕ) (xs : List ℕ) (place : ℕ) → onto_first x (first_by p xs place) ≡ first_by p (x ∷ xs) (1 + place)
first_more p x xs place =
    let one : 1 + place ≡ suc place = omega arith in
    let next : suc place + 1 ≡ suc (place + 1) = omega arith in
    rw (one, next) (sym (ap (λ t. (x ∷ take place xs) ∷ cond t (slice_split p (drop (place + 1) xs)) []) (lt_more place (length xs))))

first_step : (p : ℕ → Bool) (x : ℕ) (xs : List ℕ) (b : Bool) → slice_split p xs ≡ first_by p xs (position_or_len p xs)
    → cond b ([] ∷ slice_split p xs) (onto_first x (slice_split p xs)) ≡ first_by p (x ∷ xs) (cond (not b) (1 + position_or_len p xs) 0)
first_step p x xs true h = sym (ap (λ t. [] ∷ cond t (slice_split p xs) []) (lt-ltb 0 (length (x ∷ xs)) (omega arith)))
first_step p x xs false h = ap (onto_first x) h ∙ first_more p x xs (position_or_len p xs)

first_part : (p : ℕ → Bool) (xs : List ℕ) → slice_split p xs ≡ first_by p xs (position_or_len p xs)
first_part p [] = refl
first_part p (x ∷ xs) = first_step p x xs (p x) (first_part p xs)

-- a part ends at the first separator
part_len_by : (place len : ℕ) (b : Bool) → nat_lt place len ≡ b → place ≤ len → unwrap_or (cond b (Some place) None) len ≡ place
part_len_by place len true e h = refl
part_len_by place len false e h = grind (arith, nat_tests)

pub part_len_is : (separator : ℕ) (xs : List ℕ) → part_len separator xs ≡ position_or_len (λ b. b == separator) xs
part_len_is separator xs =
    let place : ℕ = position_or_len (λ b. b == separator) xs in
    part_len_by place (length xs) (nat_lt place (length xs)) refl (place_within (λ b. b == separator) xs)

rest_by : (p : ℕ → Bool) (at place : ℕ) (text : List ℕ) (b : Bool) → nat_lt place (length (drop at text)) ≡ b → at ≤ length text
    → cond b (slice_split p (drop (place + 1) (drop at text))) [] ≡ cond (nat_le (at + (place + 1)) (length text)) (slice_split p (drop (at + (place + 1)) text)) []
rest_by p at place text true e h =
    let within : at + (place + 1) ≤ length text = grind (arith, nat_tests, length-drop at text) in
    ap (slice_split p) (drop-drop (place + 1) at text) ∙ sym (ap (λ t. cond t (slice_split p (drop (at + (place + 1)) text)) []) (le-leb (at + (place + 1)) (length text) within))
rest_by p at place text false e h =
    let beyond : length text < at + (place + 1) = grind (arith, nat_tests, length-drop at text) in
    sym (ap (λ t. cond t (slice_split p (drop (at + (place + 1)) text)) []) (lt-leb (at + (place + 1)) (length text) beyond))

-- the first of the parts that are left, and what is left behind it
pub parts_first : (separator at : ℕ) (text : List ℕ) → at ≤ length text
    → parts_left separator at text ≡ part_at separator at text ∷ parts_left separator (at + (length (part_at separator at text) + 1)) text
parts_first separator at text h =
    let p : ℕ → Bool = λ b. b == separator in
    let xs : List ℕ = drop at text in
    let place : ℕ = position_or_len p xs in
    let len : part_len separator xs ≡ place = part_len_is separator xs in
    let part : part_at separator at text ≡ take place xs = ap (λ n. take n xs) len in
    let size : length (part_at separator at text) ≡ place = ap length part ∙ length-take-le place xs (place_within p xs) in
    ap (λ t. cond t (slice_split p xs) []) (le-leb at (length text) h)
    ∙ first_part p xs
    ∙ ap (λ rest. take place xs ∷ rest) (rest_by p at place text (nat_lt place (length xs)) refl h)
    ∙ (λ i. sym part i ∷ parts_left separator (at + (sym size i + 1)) text)

pub parts_whole : (separator at : ℕ) (text : List ℕ) → at ≤ length text → parts_left separator at text ≡ parts_from separator at text
parts_whole separator at text h = ap (λ t. cond t (parts_from separator at text) []) (le-leb at (length text) h)
