-- What is left of the bytes of a chain, from a position on.
use Rattle.std.specs.Prelude.{List, ◌<◌, ℕ, ◌+◌, ◌*◌, ◌^◌, drop, length, take}
use Rattle.std.specs.Int.{div_ceil}
use Rattle.mdcc_pool.specs.Chains.{step, text, AreWhole}
use Rattle.mdcc_pool.specs.declared.cells.Cell.{Cell}

-- so many bytes, from an offset in a cell on
abbrev pub bytes_left_of : List Cell → ℕ → ℕ → ℕ → List ℕ
bytes_left_of cells at within left = take left (drop within (text cells (div_ceil (within + left) 60) at))

-- the cells of these bytes are there
pub record IsReading (cells : List Cell) (at within left : ℕ) : Type 0 where
  pub whole : AreWhole cells
  pub small : within + left < 2 ^ 40
  pub there : (j : ℕ) → 60 * j < within + left → step cells j at < length cells
