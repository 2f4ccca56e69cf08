-- The first line of a text, and the others.
use Rattle.std.proofs.Common.{◌≡◌, ◌+◌, ◌<◌, ◌≤◌, ◌==◌, ◌∷◌, [], List, ℕ, Bool, true, false, cond, length, take, drop, get_or, refl, sym, ap, ◌∙◌, arith, take_all}
use Rattle.std.proofs.Math.Seq.{drop-length}
use Rattle.std.proofs.lemmas.Bool.{eqb-true}
use Rattle.std.specs.List.{onto_first}
use Rattle.mdcc_def_language.specs.Lines.{lines_in, bytes_of_line}
use Rattle.mdcc_sched.proofs.FirstLines.{first_len, front_line, other_lines, ended, unended}

first_and_rest : (lines : List (List ℕ)) → 0 < length lines → lines ≡ get_or lines 0 [] ∷ drop 1 lines
first_and_rest [] h = absurd (omega arith)
first_and_rest (line ∷ lines) h = refl

onto_some : (b : ℕ) (lines : List (List ℕ)) → 0 < length (onto_first b lines)
onto_some b [] = omega arith
onto_some b (line ∷ lines) = omega arith

some_by : (b : ℕ) (bs : List ℕ) (t : Bool) → 0 < length (cond t ((b ∷ []) ∷ lines_in bs) (onto_first b (lines_in bs)))
some_by b bs true = omega arith
some_by b bs false = onto_some b (lines_in bs)

some_lines : (text : List ℕ) → 0 < length text → 0 < length (lines_in text)
some_lines [] h = absurd (omega arith)
some_lines (b ∷ bs) h = some_by b bs (b == 10)

split_first : (text : List ℕ) → 0 < length text → lines_in text ≡ take (first_len text) text ∷ lines_in (drop (first_len text) text)
split_first text h =
    first_and_rest (lines_in text) (some_lines text h)
    ∙ ap (λ (line : List ℕ). line ∷ drop 1 (lines_in text)) (front_line text)
    ∙ ap (λ (lines : List (List ℕ)). take (first_len text) text ∷ lines) (sym (other_lines text))

-- a first line with its line end
pub split_ended : (text : List ℕ) → 0 < length text → length (bytes_of_line text) < length text
    → lines_in text ≡ take (length (bytes_of_line text) + 1) text ∷ lines_in (drop (length (bytes_of_line text) + 1) text)
split_ended text h l = split_first text h ∙ ap (λ (n : ℕ). take n text ∷ lines_in (drop n text)) (ended text l)

-- a first line without one is all that there is
pub split_unended : (text : List ℕ) → 0 < length text → length text ≤ length (bytes_of_line text) → lines_in text ≡ text ∷ []
split_unended text h l =
    split_first text h
    ∙ ap (λ (n : ℕ). take n text ∷ lines_in (drop n text)) (unended text l)
    ∙ ap (λ (line : List ℕ). line ∷ lines_in (drop (length text) text)) (take_all (length text) text (omega arith))
    ∙ ap (λ (rest : List ℕ). text ∷ lines_in rest) (drop-length text)

-- no line is left of an empty text
pub none_left : (text : List ℕ) → true ≡ (length text == 0) → lines_in text ≡ []
none_left [] e = refl
none_left (b ∷ bs) e = absurd (omega (arith, eqb-true (length (b ∷ bs)) 0 (sym e)))
