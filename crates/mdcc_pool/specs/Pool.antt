-- How a pool keeps what it holds.
use Rattle.std.specs.Prelude.{List, Option, None, Some, [], ◌∷◌, ◌≡◌, ◌<◌, ℕ, ◌+◌, ◌-◌, ◌++◌, ◌^◌, get_or, length, option_map, replicate, suc, take}
use Rattle.mdcc_pool.specs.Chains.{step, text, AreWhole}
use Rattle.mdcc_pool.specs.Sizes.{cells_for}
use Rattle.mdcc_pool.specs.declared.cells.Cell.{Cell}

-- the lengths that were set, and none at the other cells up to the size
abbrev pub padded_to : ℕ → List (Option ℕ) → List (Option ℕ)
padded_to size lens = lens ++ replicate (size - length lens) None

-- the bytes from a cell on
abbrev pub record_at : List Cell → ℕ → ℕ → List ℕ
record_at cells at len = take len (text cells (cells_for len) at)

-- the bytes under each ticket from one on, by the lengths of those that are in use
abbrev pub held_from : List Cell → ℕ → List (Option ℕ) → List (Option (List ℕ))
held_from cells at [] = []
held_from cells at (len ∷ lens) = option_map (record_at cells at) len ∷ held_from cells (at + 1) lens

-- the cells of a chain have its label, each with its index in it
abbrev pub AreLabelled : List Cell → (ℕ → ℕ × ℕ) → (chain count first : ℕ) → Type 0
AreLabelled cells label chain count first = (j : ℕ) → j < count → (step cells j first < length cells) × (label (step cells j first) ≡ (chain, j))

-- the cells that are in use
abbrev pub cells_in : List (Option ℕ) → ℕ
cells_in [] = 0
cells_in (None ∷ lens) = cells_in lens
cells_in (Some len ∷ lens) = cells_for len + cells_in lens

-- the chain of spare cells and those of all tickets have no cell in common: a labelling gives each cell's chain and its index there
pub record AreKept (cells : List Cell) (lens : List (Option ℕ)) (free spare : ℕ) : Type 0 where
  pub alike : length lens ≡ length cells
  pub whole : AreWhole cells
  pub small : length cells < 2 ^ 32
  pub counted : spare + cells_in lens ≡ length cells
  pub label : ℕ → ℕ × ℕ
  pub spare_ones : AreLabelled cells label 0 spare free
  pub used_ones : (first len : ℕ) → get_or lens first None ≡ Some len → AreLabelled cells label (suc first) (cells_for len) first
