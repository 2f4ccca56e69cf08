-- The first line of a text, and the others.
use Rattle.std.proofs.Common.{ℕ, suc, ◌+◌, ◌≤◌, ◌<◌, ◌==◌, Bool, true, false, not, cond, List, [], ◌∷◌, length, take, drop, get_or, if◌then◌else◌, ◌≡◌, refl, sym, ap, ◌∙◌, arith}
use Rattle.std.specs.List.{onto_first, position_or_len}
use Rattle.mdcc_def_language.specs.Lines.{lines_in, bytes_of_line}
use Rattle.mdcc_sched_words.proofs.Parts.{part_len_is, place_within}
use Rattle.std.proofs.Common.{length-take-le}

-- how many bytes the first line has
abbrev pub first_len : List ℕ → ℕ
first_len [] = 0
first_len (b ∷ bs) = if b == 10 then 1 else suc (first_len bs)

onto_front : (b : ℕ) (lines : List (List ℕ)) → get_or (onto_first b lines) 0 [] ≡ b ∷ get_or lines 0 []
onto_front b [] = refl
onto_front b (line ∷ lines) = refl

onto_others : (b : ℕ) (lines : List (List ℕ)) → drop 1 (onto_first b lines) ≡ drop 1 lines
onto_others b [] = refl
onto_others b (line ∷ lines) = refl

front_by : (b : ℕ) (bs : List ℕ) (t : Bool) → get_or (lines_in bs) 0 [] ≡ take (first_len bs) bs
    → get_or (cond t ((b ∷ []) ∷ lines_in bs) (onto_first b (lines_in bs))) 0 [] ≡ take (cond t 1 (suc (first_len bs))) (b ∷ bs)
front_by b bs true h = refl
front_by b bs false h = onto_front b (lines_in bs) ∙ ap (λ xs. b ∷ xs) h

pub front_line : (text : List ℕ) → get_or (lines_in text) 0 [] ≡ take (first_len text) text
front_line [] = refl
front_line (b ∷ bs) = front_by b bs (b == 10) (front_line bs)

others_by : (b : ℕ) (bs : List ℕ) (t : Bool) → lines_in (drop (first_len bs) bs) ≡ drop 1 (lines_in bs)
    → lines_in (drop (cond t 1 (suc (first_len bs))) (b ∷ bs)) ≡ drop 1 (cond t ((b ∷ []) ∷ lines_in bs) (onto_first b (lines_in bs)))
others_by b bs true h = refl
others_by b bs false h = h ∙ sym (onto_others b (lines_in bs))

pub other_lines : (text : List ℕ) → lines_in (drop (first_len text) text) ≡ drop 1 (lines_in text)
other_lines [] = refl
other_lines (b ∷ bs) = others_by b bs (b == 10) (other_lines bs)

len_by : (bs : List ℕ) (t : Bool) → (position_or_len (λ b. b == 10) bs < length bs → first_len bs ≡ position_or_len (λ b. b == 10) bs + 1)
    → cond (not t) (1 + position_or_len (λ b. b == 10) bs) 0 < suc (length bs)
    → cond t 1 (suc (first_len bs)) ≡ cond (not t) (1 + position_or_len (λ b. b == 10) bs) 0 + 1
len_by bs true h l = refl
len_by bs false h l = omega (arith, h (omega (arith, l)))

len_at : (text : List ℕ) → position_or_len (λ b. b == 10) text < length text → first_len text ≡ position_or_len (λ b. b == 10) text + 1
len_at [] l = absurd (omega (arith, l))
len_at (b ∷ bs) l = len_by bs (b == 10) (len_at bs) l

all_by : (bs : List ℕ) (t : Bool) → (position_or_len (λ b. b == 10) bs ≡ length bs → first_len bs ≡ length bs)
    → cond (not t) (1 + position_or_len (λ b. b == 10) bs) 0 ≡ suc (length bs)
    → cond t 1 (suc (first_len bs)) ≡ suc (length bs)
all_by bs true h l = absurd (omega (arith, l))
all_by bs false h l = omega (arith, h (omega (arith, l)))

all_at : (text : List ℕ) → position_or_len (λ b. b == 10) text ≡ length text → first_len text ≡ length text
all_at [] l = refl
all_at (b ∷ bs) l = all_by bs (b == 10) (all_at bs) l

bytes_length : (text : List ℕ) → length (bytes_of_line text) ≡ position_or_len (λ b. b == 10) text
bytes_length text =
    ap (λ n. length (take n text)) (part_len_is 10 text) ∙ length-take-le (position_or_len (λ b. b == 10) text) text (place_within (λ b. b == 10) text)

-- a line that ends is its bytes and the line end
pub ended : (text : List ℕ) → length (bytes_of_line text) < length text → first_len text ≡ length (bytes_of_line text) + 1
ended text l =
    let len = bytes_length text in
    len_at text (omega (arith, len, l)) ∙ ap (λ n. n + 1) (sym len)

-- one that doesn't end is all that there is
pub unended : (text : List ℕ) → length text ≤ length (bytes_of_line text) → first_len text ≡ length text
unended text l =
    let len = bytes_length text in
    all_at text (omega (arith, len, l, place_within (λ b. b == 10) text))
