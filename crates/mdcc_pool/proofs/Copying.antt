-- A piece of a chain's bytes is copied after those before it.
use Rattle.std.proofs.Common.{◌≡◌, inl, inr, ℕ, zero, suc, ◌+◌, ◌-◌, ◌*◌, ◌/◌, ◌%◌, ◌≢◌, ◌<◌, ◌≤◌, List, [], ◌∷◌, ◌++◌, length, take, drop, min, refl, sym, ap, ◌∙◌, arith, append_assoc, length-append, length-drop}
use Rattle.std.proofs.Math.Seq.{drop-append-add}
use Rattle.std.proofs.lemmas.Bool.{cases_lt}
use Rattle.std.proofs.lemmas.List.{drop-append-le, drop-drop, drop-take, length-take-le, take-append-le, take-append-drop, take-take, take_all}
use Rattle.mdcc_pool.specs.Chains.{cell_bytes, cell_filled, next_cell, step, text, chain_written, AreWhole}
use Rattle.mdcc_pool.specs.declared.cells.Cell.{Cell}
use Rattle.mdcc_pool.proofs.Chains.{step_next}
use Rattle.mdcc_pool.proofs.Pieces.{take-front, take-past}

-- ---- pieces of lists

pub take-add : (a b : ℕ) (xs : List ℕ) → a ≤ length xs → take (a + b) xs ≡ take a xs ++ take b (drop a xs)
take-add a b xs few =
    ap (take (a + b)) (sym (take-append-drop a xs))
    ∙ take-past (a + b) b (take a xs) (drop a xs) (omega (arith, length-take-le a xs few))

pub take-min : (xs : List ℕ) → take (min (length xs) 60) xs ≡ take 60 xs
take-min xs =
    elim (cases_lt (length xs) 60) [
      | inl few ↦ take_all (min (length xs) 60) xs (omega arith) ∙ sym (take_all 60 xs (omega arith))
      | inr many ↦
          let e : min (length xs) 60 ≡ 60 = omega arith in
          ap (λ k. take k xs) e
    ]

pub drop-all : (n : ℕ) (xs : List ℕ) → length xs ≤ n → drop n xs ≡ []
drop-all n xs few = by_length (drop n xs) (omega (arith, length-drop n xs))
  where
    by_length : (ys : List ℕ) → length ys ≡ 0 → ys ≡ []
    by_length [] e = refl
    by_length (y ∷ ys) e = absurd (omega arith)

pub drop-min : (xs : List ℕ) → drop (min (length xs) 60) xs ≡ drop 60 xs
drop-min xs =
    elim (cases_lt (length xs) 60) [
      | inl few ↦ drop-all (min (length xs) 60) xs (omega arith) ∙ sym (drop-all 60 xs (omega arith))
      | inr many ↦
          let e : min (length xs) 60 ≡ 60 = omega arith in
          ap (λ k. drop k xs) e
    ]

pub drop-past : (n m : ℕ) (xs ys : List ℕ) → n ≡ length xs + m → drop n (xs ++ ys) ≡ drop m ys
drop-past n m xs ys e = ap (λ k. drop k (xs ++ ys)) e ∙ drop-append-add xs ys m

-- what follows the earlier pieces is as it was, and the piece goes between
pub copy-piece : (xs piece all initial : List ℕ) (done size : ℕ) → xs ≡ take done all ++ drop done initial → done ≤ length all → piece ≡ take size (drop done all)
    → take done xs ++ (piece ++ drop size (drop done xs)) ≡ take (done + size) all ++ drop (done + size) initial
copy-piece xs piece all initial done size xs-are few piece-is =
    let long : done ≡ length (take done all) = omega (arith, length-take-le done all few) in
    let over : done ≡ length (take done all) + 0 = omega (arith, long) in
    let front : take done xs ≡ take done all = ap (take done) xs-are ∙ take-front done (take done all) (drop done initial) long in
    let back : drop size (drop done xs) ≡ drop (done + size) initial =
    ap (λ ys. drop size (drop done ys)) xs-are
    ∙ ap (drop size) (drop-past done 0 (take done all) (drop done initial) over)
    ∙ drop-drop size done initial in
    ap (λ f. f ++ (piece ++ drop size (drop done xs))) front
    ∙ ap (λ p. take done all ++ (p ++ drop size (drop done xs))) piece-is
    ∙ ap (λ b. take done all ++ (take size (drop done all) ++ b)) back
    ∙ sym (append_assoc (take done all) (take size (drop done all)) (drop (done + size) initial))
    ∙ ap (λ f. f ++ drop (done + size) initial) (sym (take-add done size all few))

-- ---- pieces of chains

pub text-length : (cells : List Cell) (n at : ℕ) → AreWhole cells → ((j : ℕ) → j < n → step cells j at < length cells) → length (text cells n at) ≡ 60 * n
text-length cells zero at whole within = refl
text-length cells (suc n) at whole within =
    omega (
      arith,
      length-append (cell_bytes cells at) (text cells n (next_cell cells at)),
      whole at (within zero (omega arith)),
      text-length cells n (next_cell cells at) whole (λ j l. within (suc j) (omega arith)),
    )

-- within a cell, the bytes of the chain are those of the cell
pub text-piece : (cells : List Cell) (q n at within size : ℕ) → AreWhole cells → ((j : ℕ) → j ≤ q → step cells j at < length cells)
    → q < n → within + size ≤ 60 → take size (drop (60 * q + within) (text cells n at)) ≡ take size (drop within (cell_bytes cells (step cells q at)))
text-piece cells q zero at within size whole inside below fits = absurd (omega arith)
text-piece cells zero (suc n) at within size whole inside below fits =
    let long : length (cell_bytes cells at) ≡ 60 = whole at (inside zero (omega arith)) in
    let none : 60 * 0 + within ≡ within = omega arith in
    ap (λ k. take size (drop k (text cells (suc n) at))) none
    ∙ ap (take size) (drop-append-le within (cell_bytes cells at) (text cells n (next_cell cells at)) (omega arith))
    ∙ take-append-le size (drop within (cell_bytes cells at)) (text cells n (next_cell cells at)) (omega (arith, length-drop within (cell_bytes cells at)))
text-piece cells (suc q) (suc n) at within size whole inside below fits =
    let long : length (cell_bytes cells at) ≡ 60 = whole at (inside zero (omega arith)) in
    ap (take size) (drop-past (60 * suc q + within) (60 * q + within) (cell_bytes cells at) (text cells n (next_cell cells at)) (omega arith))
    ∙ text-piece cells q n (next_cell cells at) within size whole (λ j l. inside (suc j) (omega arith)) (omega arith) fits

-- ---- a step of writing

pub write-next : (cells end : List Cell) (rest : List ℕ) (n i at : ℕ) → i < n → chain_written cells rest (n - i) at ≡ end
    → chain_written (cell_filled cells at rest) (drop 60 rest) (n - (i + 1)) (next_cell cells at) ≡ end
write-next cells end rest n i at below is =
    let one : suc (n - (i + 1)) ≡ n - i = omega arith in
    ap (λ k. chain_written cells rest k at) one ∙ is

-- a chain is as long as its cells in the region are many
text-long : (cells : List Cell) (q n at : ℕ) → AreWhole cells → ((j : ℕ) → j < q → step cells j at < length cells) → q ≤ n → 60 * q ≤ length (text cells n at)
text-long cells zero n at whole within few = omega arith
text-long cells (suc q) zero at whole within few = absurd (omega arith)
text-long cells (suc q) (suc n) at whole within few =
    omega (
      arith,
      length-append (cell_bytes cells at) (text cells n (next_cell cells at)),
      whole at (within zero (omega arith)),
      text-long cells q n (next_cell cells at) whole (λ j l. within (suc j) (omega arith)) (omega arith),
    )

-- one more piece of a chain is copied
pub copy-step : (cells : List Cell) (first offset count done size at : ℕ) (into piece initial : List ℕ)
    → AreWhole cells → ((j : ℕ) → 60 * j < offset + count → step cells j first < length cells)
    → done < count → size ≡ min (60 - (offset + done) % 60) (count - done)
    → at ≡ step cells ((offset + done) / 60) first
    → piece ≡ take size (drop ((offset + done) % 60) (cell_bytes cells at))
    → (n : ℕ) → offset + count ≤ 60 * n → into ≡ take done (drop offset (text cells n first)) ++ drop done initial
    → take done into ++ (piece ++ drop size (drop done into)) ≡ take (done + size) (drop offset (text cells n first)) ++ drop (done + size) initial
copy-step cells first offset count done size at into piece initial whole within below size-is at-is piece-is n few into-is =
    let p : ℕ = offset + done in
    let cell : ℕ = p / 60 in
    let place : ℕ = p % 60 in
    let split : p ≡ 60 * cell + place = omega arith in
    let long : 60 * ((p + 59) / 60) ≤ length (text cells n first) =
    text-long cells ((p + 59) / 60) n first whole (λ j l. within j (omega arith)) (omega arith) in
    let found : take size (drop p (text cells n first)) ≡ take size (drop place (cell_bytes cells (step cells cell first))) =
    ap (λ k. take size (drop k (text cells n first))) split
    ∙ text-piece cells cell n first place size whole (λ j l. within j (omega arith)) (omega arith) (omega arith) in
    copy-piece into piece (drop offset (text cells n first)) initial done size into-is
    (omega (arith, length-drop offset (text cells n first)))
    (piece-is
    ∙ ap (λ c. take size (drop place (cell_bytes cells c))) at-is
    ∙ sym found
    ∙ ap (take size) (sym (drop-drop done offset (text cells n first))))

-- the next piece begins in the same cell or in the next one
pub copy-same : (cells : List Cell) (p size first : ℕ) → size ≤ 60 - p % 60 → p % 60 + size ≢ 60 → step cells ((p + size) / 60) first ≡ step cells (p / 60) first
copy-same cells p size first few differs =
    let same : (p + size) / 60 ≡ p / 60 = omega (arith, differs) in
    ap (λ k. step cells k first) same

pub copy-onward : (cells : List Cell) (p size first : ℕ) → p % 60 + size ≡ 60 → step cells ((p + size) / 60) first ≡ next_cell cells (step cells (p / 60) first)
copy-onward cells p size first ends =
    let more : (p + size) / 60 ≡ p / 60 + 1 = omega arith in
    ap (λ k. step cells k first) more ∙ step_next cells (p / 60) first

-- a front of a record is one of its chain
pub take-record : (len offset count : ℕ) (all : List ℕ) → offset + count ≤ len → take count (drop offset (take len all)) ≡ take count (drop offset all)
take-record len offset count all few =
    let sum : len ≡ offset + (len - offset) = omega arith in
    ap (λ k. take count (drop offset (take k all))) sum
    ∙ ap (take count) (drop-take offset (len - offset) all)
    ∙ take-take count (len - offset) (drop offset all) (omega arith)
