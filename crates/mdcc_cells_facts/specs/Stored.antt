-- Facts as their encodings, and the cells that they lie in.
use Rattle.std.specs.Prelude.{List, Option, None, Some, Result, Ok, Err, [], ◌∷◌, ◌≡◌, ◌+◌, ◌<◌, ◌≤◌, IsSome, ℕ, get_or, if◌then◌else◌, length, map, nat_lt}
use Rattle.mdcc_pool.specs.Held.{HeldCells, bytes_held_at}
use Rattle.mdcc_pool.specs.Sizes.{cells_for}
use Rattle.mdcc_pool.specs.declared.pool.Ticket.{Ticket}
use Rattle.mdcc_def_protocol.specs.declared.stores.StoreFault.{StoreFault}

-- how many cells are spare, and the encoding of each fact at its number
pub record Stored : Type 0 where
  pub spare : ℕ
  pub encodings : List (List ℕ)

abbrev pub bytes_or_none : Option (List ℕ) → List ℕ
bytes_or_none None = []
bytes_or_none (Some bytes) = bytes

abbrev pub bytes_under : List (Option (List ℕ)) → Ticket → List ℕ
bytes_under held ticket = bytes_or_none (get_or held ticket.first None)

-- the bytes under each ticket
abbrev pub encodings_in : List (Option (List ℕ)) → List Ticket → List (List ℕ)
encodings_in held tickets = map (bytes_under held) tickets

-- how many cells encodings lie in
abbrev pub cells_taken : List (List ℕ) → ℕ
cells_taken [] = 0
cells_taken (bytes ∷ encodings) = cells_for (length bytes) + cells_taken encodings

abbrev pub no_ticket : Ticket
no_ticket = record { first = 0 }

-- under each ticket bytes are held, all cells are spare or theirs, and there is room for as many tickets as there are cells
pub record AreTicketed (pool : HeldCells) (tickets : List Ticket) (capacity : ℕ) : Type 0 where
  pub held : (number : ℕ) → number < length tickets → IsSome (bytes_held_at pool (get_or tickets number no_ticket).first)
  pub used : length tickets + pool.spare ≤ length pool.held
  pub counted : pool.spare + cells_taken (encodings_in pool.held tickets) ≡ length pool.held
  pub room : length pool.held ≤ capacity
  pub small : length pool.held < 4294967296

-- what a store answers of its room
abbrev pub room_for : (spare needed : ℕ) → Result (Unit {0}) StoreFault
room_for spare needed = if nat_lt spare needed then Err (StoreFault.NoRoom needed spare) else Ok tt
