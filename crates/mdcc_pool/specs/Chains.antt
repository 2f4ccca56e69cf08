-- Cells that lead to one another, and the bytes along them.
use Rattle.std.specs.Prelude.{List, [], ◌∷◌, ℕ, ◌++◌, ◌-◌, ◌<◌, ◌≡◌, ◌+◌, drop, get_or, length, replicate, set, suc, take, zero}
use Rattle.mdcc_pool.specs.declared.cells.Cell.{Cell}

-- what is read past the region
abbrev pub no_cell : Cell
no_cell = record { next = 0; bytes = [] }

abbrev pub next_cell : List Cell → ℕ → ℕ
next_cell cells at = (get_or cells at no_cell).next

abbrev pub cell_bytes : List Cell → ℕ → List ℕ
cell_bytes cells at = (get_or cells at no_cell).bytes

-- the cell so many steps after another one
abbrev pub step : List Cell → ℕ → ℕ → ℕ
step cells zero at = at
step cells (suc j) at = step cells j (next_cell cells at)

-- the bytes of so many cells
abbrev pub text : List Cell → ℕ → ℕ → List ℕ
text cells zero at = []
text cells (suc j) at = cell_bytes cells at ++ text cells j (next_cell cells at)

abbrev pub padded : List ℕ → List ℕ
padded bytes = bytes ++ replicate (60 - length bytes) 0

-- a cell with other bytes
abbrev pub cell_filled : List Cell → ℕ → List ℕ → List Cell
cell_filled cells at bytes = set cells at (record { next = next_cell cells at; bytes = padded (take 60 bytes) })

-- the cells once bytes are written into so many of a chain
abbrev pub chain_written : List Cell → List ℕ → ℕ → ℕ → List Cell
chain_written cells bytes zero at = cells
chain_written cells bytes (suc j) at = chain_written (cell_filled cells at bytes) (drop 60 bytes) j (next_cell cells at)

-- each cell has 60 bytes
abbrev pub AreWhole : List Cell → Type 0
AreWhole cells = (at : ℕ) → at < length cells → length (cell_bytes cells at) ≡ 60

-- bytes as the cells of a chain keep them
abbrev pub pieces : ℕ → List ℕ → List ℕ
pieces zero bytes = []
pieces (suc j) bytes = padded (take 60 bytes) ++ pieces j (drop 60 bytes)

-- a cell as it is before its first use
abbrev pub unused : ℕ → Cell
unused at = record { next = at + 1; bytes = replicate 60 0 }

-- cells before their first use, from one on
abbrev pub fresh_cells : ℕ → ℕ → List Cell
fresh_cells at zero = []
fresh_cells at (suc n) = unused at ∷ fresh_cells (at + 1) n

-- the cells that were used, and the others up to the size
abbrev pub extended : ℕ → List Cell → List Cell
extended size cells = cells ++ fresh_cells (length cells) (size - length cells)
