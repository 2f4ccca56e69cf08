-- What is left of the bytes of a chain, when some of it is passed.
use Rattle.std.proofs.Common.{◌≡◌, inl, inr, ℕ, zero, suc, ◌+◌, ◌-◌, ◌*◌, ◌/◌, ◌%◌, ◌≤◌, List, ◌++◌, Option, Some, None, get_or, length, take, drop, refl, sym, ap, ◌∙◌, arith, append_assoc, length-drop}
use Rattle.std.specs.Prelude.{min}
use Rattle.std.specs.Int.{div_ceil}
use Rattle.std.proofs.lemmas.Bool.{cases_lt}
use Rattle.std.proofs.lemmas.List.{drop-drop, drop-take, length-take, take-take}
use Rattle.mdcc_pool.specs.Chains.{cell_bytes, next_cell, step, text}
use Rattle.mdcc_pool.specs.Reading.{bytes_left_of, IsReading}
use Rattle.mdcc_pool.specs.Pool.{record_at, AreKept}
use Rattle.mdcc_pool.specs.Sizes.{cells_for}
use Rattle.mdcc_pool.specs.declared.cells.Cell.{Cell}
use Rattle.mdcc_pool.proofs.Chains.{step-add}
use Rattle.mdcc_pool.proofs.Copying.{drop-all, drop-past, text-length}
use Rattle.mdcc_pool.proofs.Kept.{cells_for-enough, kept-count}

-- no more is dropped than there is
pub drop_at_most : (count left few : ℕ) (xs : List ℕ) → few ≡ min count left → length xs ≡ left → drop few xs ≡ drop count xs
drop_at_most count left few xs few-is long =
    elim (cases_lt count left) [
      | inl below ↦
          let e : few ≡ count = omega arith in
          ap (λ k. drop k xs) e
      | inr past ↦ drop-all few xs (omega arith) ∙ sym (drop-all count xs (omega arith))
    ]

text-add : (cells : List Cell) (a b at : ℕ) → text cells (a + b) at ≡ text cells a at ++ text cells b (step cells a at)
text-add cells zero b at =
    let none : 0 + b ≡ b = omega arith in
    ap (λ k. text cells k at) none
text-add cells (suc a) b at =
    let one : suc a + b ≡ suc (a + b) = omega arith in
    ap (λ k. text cells k at) one
    ∙ ap (λ t. cell_bytes cells at ++ t) (text-add cells a b (next_cell cells at))
    ∙ sym (append_assoc (cell_bytes cells at) (text cells a (next_cell cells at)) (text cells b (step cells a (next_cell cells at))))

pub left_length : (cells : List Cell) (at within left : ℕ) → IsReading cells at within left → length (bytes_left_of cells at within left) ≡ left
left_length cells at within left reading =
    let n : ℕ = div_ceil (within + left) 60 in
    omega (
      arith,
      length-take left (drop within (text cells n at)),
      length-drop within (text cells n at),
      text-length cells n at reading.whole (λ j l. reading.there j (omega arith)),
    )

pub left_take : (cells : List Cell) (at within left count : ℕ) → count ≤ left
    → take count (drop within (text cells (div_ceil (within + left) 60) at)) ≡ take count (bytes_left_of cells at within left)
left_take cells at within left count few = sym (take-take count left (drop within (text cells (div_ceil (within + left) 60) at)) few)

module _ (cells : List Cell) (at within left passed : ℕ) (reading : IsReading cells at within left) (few : passed ≤ left) where
  abbrev q : ℕ
  q = (within + passed) / 60

  abbrev r : ℕ
  r = (within + passed) % 60

  pub reading_on : IsReading cells (step cells q at) r (left - passed)
  reading_on = record {
    whole = reading.whole;
    small = omega (arith, reading.small);
    there = λ j l. omega (arith, step-add cells q j at, reading.there (q + j) (omega arith));
  }

  pub left_on : bytes_left_of cells (step cells q at) r (left - passed) ≡ drop passed (bytes_left_of cells at within left)
  left_on =
      let n : ℕ = div_ceil (within + left) 60 in
      let m : ℕ = div_ceil (r + (left - passed)) 60 in
      let sum : n ≡ q + m = omega arith in
      let rest : List ℕ = text cells m (step cells q at) in
      let long : length (text cells q at) ≡ 60 * q = text-length cells q at reading.whole (λ j l. reading.there j (omega arith)) in
      let both : left ≡ passed + (left - passed) = omega arith in
      sym (ap (λ k. drop passed (take k (drop within (text cells n at)))) both
      ∙ drop-take passed (left - passed) (drop within (text cells n at))
      ∙ ap (take (left - passed)) (drop-drop passed within (text cells n at))
      ∙ ap (λ k. take (left - passed) (drop (within + passed) (text cells k at))) sum
      ∙ ap (λ t. take (left - passed) (drop (within + passed) t)) (text-add cells q m at)
      ∙ ap (take (left - passed)) (drop-past (within + passed) r (text cells q at) rest (omega (arith, long))))

-- ---- a record is read from its first byte on

pub record_left : (cells : List Cell) (at len : ℕ) → record_at cells at len ≡ bytes_left_of cells at 0 len
record_left cells at zero = refl
record_left cells at (suc len) =
    let same : cells_for (suc len) ≡ div_ceil (0 + suc len) 60 = omega arith in
    ap (λ k. take (suc len) (text cells k at)) same

pub reading_start : (cells : List Cell) (lens : List (Option ℕ)) (free spare : ℕ) → AreKept cells lens free spare
    → (first len : ℕ) → get_or lens first None ≡ Some len → IsReading cells first 0 len
reading_start cells lens free spare kept first len is = record {
  whole = kept.whole;
  small = omega (arith, kept.small, cells_for-enough len, kept-count cells lens free spare kept first len is);
  there = λ j l. (kept.used_ones first len is j (omega (arith, cells_for-enough len))).0;
}
