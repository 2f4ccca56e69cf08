-- The pieces of a message in the order in which they came.
use Rattle.std.specs.Prelude.{◌≡◌, ◌≤◌, ℕ, ◌+◌, ◌-◌, ◌*◌, min, Bool, true, cond, ◌&&◌, nat_eq, nat_le, List, [], ◌∷◌, length, take, drop, replicate}
use Rattle.std.specs.List.{sum_by}
use Rattle.mdcc_frag.specs.declared.partial.Arrival.{Arrival}
use Rattle.mdcc_frag.specs.declared.partial.Partial.TheInside.{Inside}
use Rattle.mdcc_frag.specs.Datagrams.{message_limit, count}
use Rattle.mdcc_frag.specs.Partial.{PartialMessage, with_piece_bytes}

-- the bytes with the pieces that came written over them
abbrev pub pieces_placed : List Arrival → List ℕ → List ℕ → List ℕ
pieces_placed [] pieces bytes = bytes
pieces_placed (arrival ∷ arrivals) pieces bytes =
    pieces_placed arrivals (drop arrival.size pieces) (with_piece_bytes (1383 * arrival.index) (take arrival.size pieces) bytes)

-- so many bytes are the pieces that came, each of which lies in a message of this length
abbrev pub are_laid : ℕ → List Arrival → ℕ → Bool
are_laid total [] size = nat_eq size 0
are_laid total (arrival ∷ arrivals) size =
    nat_le arrival.size size && (nat_le (1383 * arrival.index + arrival.size) total && are_laid total arrivals (size - arrival.size))

-- each piece lies right behind the one before, and the first at this offset
abbrev pub are_contiguous : ℕ → List Arrival → Bool
are_contiguous offset [] = true
are_contiguous offset (arrival ∷ arrivals) = nat_eq (1383 * arrival.index) offset && are_contiguous (1383 * arrival.index + arrival.size) arrivals

-- how many pieces did not come
abbrev pub absent : Bool → ℕ
absent came = cond came 0 1

abbrev pub missing : List Bool → ℕ
missing held = sum_by (λ came. absent came) held

-- how many bytes the pieces that did not come have, where so many bytes are left for them and those that came
abbrev pub bytes_missing : ℕ → List Bool → ℕ
bytes_missing size [] = 0
bytes_missing size (came ∷ held) = cond came 0 (min 1383 size) + bytes_missing (size - 1383) held

-- the message: zeros, with the pieces that came
abbrev pub message_of_pieces : Inside → PartialMessage
message_of_pieces p = record {
  bytes = pieces_placed p.arrivals.items p.pieces.items (replicate p.total 0);
  held = p.held.items;
}

-- The pieces that came are those of the flags, each with all of its bytes.
pub record ArePieces (p : Inside) : Type 0 where
  pub short : p.total ≤ message_limit
  pub flags : length p.held.items ≡ count p.total
  pub came : missing p.held.items + length p.arrivals.items ≡ length p.held.items
  pub laid : are_laid p.total p.arrivals.items (length p.pieces.items) ≡ true
  pub bytes : bytes_missing p.total p.held.items + length p.pieces.items ≡ p.total
