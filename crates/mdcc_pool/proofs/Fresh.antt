-- Cells before their first use, and a pool of which all cells are spare.
use Rattle.std.proofs.Common.{◌≡◌, ℕ, zero, suc, ◌+◌, ◌-◌, ◌^◌, ◌<◌, ◌≤◌, List, [], ◌∷◌, ◌++◌, Option, Some, None, length, get_or, set, replicate, refl, sym, ap, ◌∙◌, arith, append_assoc, length-append}
use Rattle.std.proofs.lemmas.List.{get_or_append_left, length-replicate, length-set}
use Rattle.mdcc_pool.specs.Chains.{extended, fresh_cells, next_cell, no_cell, step, unused}
use Rattle.mdcc_pool.specs.Pool.{cells_in, held_from, padded_to, AreKept}
use Rattle.mdcc_pool.specs.declared.cells.Cell.{Cell}
use Rattle.mdcc_pool.proofs.Chains.{step_next}

-- ---- a list and what follows it

pub append-past : {A : Type 0} (xs ys : List A) (i : ℕ) (d : A) → length xs ≤ i → get_or (xs ++ ys) i d ≡ get_or ys (i - length xs) d
append-past [] ys i d past =
    let none : i ≡ i - 0 = omega arith in
    ap (λ k. get_or ys k d) none
append-past (x ∷ xs) ys zero d past = absurd (omega arith)
append-past (x ∷ xs) ys (suc i) d past =
    let less : i - length xs ≡ suc i - suc (length xs) = omega arith in
    append-past xs ys i d (omega arith) ∙ ap (λ k. get_or ys k d) less

pub set-front : {A : Type 0} (xs ys : List A) (i : ℕ) (x : A) → i < length xs → set xs i x ++ ys ≡ set (xs ++ ys) i x
set-front [] ys i x within = absurd (omega arith)
set-front (y ∷ xs) ys zero x within = refl
set-front (y ∷ xs) ys (suc i) x within = ap (λ t. y ∷ t) (set-front xs ys i x (omega arith))

-- ---- cells

pub fresh-length : (at n : ℕ) → length (fresh_cells at n) ≡ n
fresh-length at zero = refl
fresh-length at (suc n) = ap suc (fresh-length (at + 1) n)

pub fresh-get : (at n i : ℕ) → i < n → get_or (fresh_cells at n) i no_cell ≡ unused (at + i)
fresh-get at zero i within = absurd (omega arith)
fresh-get at (suc n) zero within =
    let none : at ≡ at + 0 = omega arith in
    ap unused none
fresh-get at (suc n) (suc i) within =
    let more : at + 1 + i ≡ at + suc i = omega arith in
    fresh-get (at + 1) n i (omega arith) ∙ ap unused more

pub extended_length : (size : ℕ) (cells : List Cell) → length cells ≤ size → length (extended size cells) ≡ size
extended_length size cells few = omega (arith, length-append cells (fresh_cells (length cells) (size - length cells)), fresh-length (length cells) (size - length cells))

pub extended_used : (size : ℕ) (cells : List Cell) (at : ℕ) → at < length cells → get_or (extended size cells) at no_cell ≡ get_or cells at no_cell
extended_used size cells at within = get_or_append_left cells (fresh_cells (length cells) (size - length cells)) no_cell at within

pub extended_unused : (size : ℕ) (cells : List Cell) (at : ℕ) → length cells ≤ at → at < size → get_or (extended size cells) at no_cell ≡ unused at
extended_unused size cells at past within =
    let sum : length cells + (at - length cells) ≡ at = omega arith in
    append-past cells (fresh_cells (length cells) (size - length cells)) at no_cell past
    ∙ fresh-get (length cells) (size - length cells) (at - length cells) (omega arith)
    ∙ ap unused sum

-- the next cell is written as it was seen before
pub extended_more : (size : ℕ) (cells : List Cell) → length cells < size → extended size (cells ++ unused (length cells) ∷ []) ≡ extended size cells
extended_more size cells few =
    let one : length (cells ++ unused (length cells) ∷ []) ≡ length cells + 1 = omega (arith, length-append cells (unused (length cells) ∷ [])) in
    let left : size - length cells ≡ suc (size - (length cells + 1)) = omega arith in
    ap (λ k. (cells ++ unused (length cells) ∷ []) ++ fresh_cells k (size - k)) one
    ∙ append_assoc cells (unused (length cells) ∷ []) (fresh_cells (length cells + 1) (size - (length cells + 1)))
    ∙ ap (λ k. cells ++ fresh_cells (length cells) k) (sym left)

pub extended_set : (size : ℕ) (cells : List Cell) (at : ℕ) (cell : Cell) → at < length cells → extended size (set cells at cell) ≡ set (extended size cells) at cell
extended_set size cells at cell within =
    ap (λ k. set cells at cell ++ fresh_cells k (size - k)) (length-set cells at cell)
    ∙ set-front cells (fresh_cells (length cells) (size - length cells)) at cell within

-- ---- lengths

abbrev pub no_length : Option ℕ
no_length = None

none-at : (n i : ℕ) → get_or (replicate n no_length) i None ≡ None
none-at zero i = refl
none-at (suc n) zero = refl
none-at (suc n) (suc i) = none-at n i

pub lens_used : (size : ℕ) (lens : List (Option ℕ)) (at : ℕ) → at < length lens → get_or (padded_to size lens) at None ≡ get_or lens at None
lens_used size lens at within = get_or_append_left lens (replicate (size - length lens) None) None at within

pub lens_unused : (size : ℕ) (lens : List (Option ℕ)) (at : ℕ) → length lens ≤ at → get_or (padded_to size lens) at None ≡ None
lens_unused size lens at past =
    append-past lens (replicate (size - length lens) None) at None past ∙ none-at (size - length lens) (at - length lens)

pub lens_length : (size : ℕ) (lens : List (Option ℕ)) → length lens ≤ size → length (padded_to size lens) ≡ size
lens_length size lens few = omega (arith, length-append lens (replicate (size - length lens) None), length-replicate (size - length lens) no_length)

pub lens_more : (size : ℕ) (lens : List (Option ℕ)) → length lens < size → padded_to size (lens ++ None ∷ []) ≡ padded_to size lens
lens_more size lens few =
    let one : length (lens ++ None ∷ []) ≡ length lens + 1 = omega (arith, length-append lens (None ∷ [])) in
    let left : size - length lens ≡ suc (size - (length lens + 1)) = omega arith in
    ap (λ k. (lens ++ None ∷ []) ++ replicate (size - k) None) one
    ∙ append_assoc lens (None ∷ []) (replicate (size - (length lens + 1)) None)
    ∙ ap (λ k. lens ++ replicate k None) (sym left)

pub lens_set : (size : ℕ) (lens : List (Option ℕ)) (at : ℕ) (len : Option ℕ) → at < length lens → padded_to size (set lens at len) ≡ set (padded_to size lens) at len
lens_set size lens at len within =
    ap (λ k. set lens at len ++ replicate (size - k) None) (length-set lens at len)
    ∙ set-front lens (replicate (size - length lens) None) at len within

-- ---- a fresh pool

fresh-step : (n j : ℕ) → j < n → step (fresh_cells 0 n) j 0 ≡ j
fresh-step n zero within = refl
fresh-step n (suc j) within =
    let one : suc j ≡ j + 1 = omega arith in
    let none : 0 + j ≡ j = omega arith in
    ap (λ k. step (fresh_cells 0 n) k 0) one
    ∙ step_next (fresh_cells 0 n) j 0
    ∙ ap (next_cell (fresh_cells 0 n)) (fresh-step n j (omega arith))
    ∙ ap (λ c. c.next) (fresh-get 0 n j (omega arith)) ∙ ap (λ k. k + 1) none ∙ sym one

none-in : (n : ℕ) → cells_in (replicate n None) ≡ 0
none-in zero = refl
none-in (suc n) = none-in n

pub none-held : (cells : List Cell) (at n : ℕ) → held_from cells at (replicate n None) ≡ replicate n None
none-held cells at zero = refl
none-held cells at (suc n) = ap (λ t. None ∷ t) (none-held cells (at + 1) n)

pub kept-fresh : (n : ℕ) → n < 2 ^ 32 → AreKept (fresh_cells 0 n) (replicate n None) 0 n
kept-fresh n small = record {
  alike = length-replicate n no_length ∙ sym (fresh-length 0 n);
  whole = λ c within. ap (λ x. length x.bytes) (fresh-get 0 n c (omega (arith, fresh-length 0 n)));
  small = omega (arith, fresh-length 0 n);
  counted = omega (arith, none-in n, fresh-length 0 n);
  label = λ c. (0, c);
  spare_ones = λ j l. (omega (arith, fresh-step n j l, fresh-length 0 n), ap (λ k. (0, k)) (fresh-step n j l));
  used_ones = λ first len is.
      let gone : None ≡ Some len = sym (none-at n first) ∙ is in
      absurd (cc);
}
