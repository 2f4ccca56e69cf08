-- The datagrams of a message, as they are read.
use Rattle.std.specs.Prelude.{◌≡◌, ◌≤◌, ◌<◌, ℕ, ◌+◌, ◌-◌, ◌*◌, Bool, ◌==◌, ◌&&◌, ◌||◌, nat_le, nat_lt, min, List, length, take, drop, slice_index, if◌then◌else◌, Result, Ok, Err}
use Rattle.std.specs.Int.{w16, w32, from_le_bytes}
use Rattle.mdcc_frag.specs.declared.reading.Piece.{Piece}
use Rattle.mdcc_frag.specs.declared.reading.DropCause.{DropCause}
use Rattle.mdcc_frag.specs.declared.reading.DropCause.TheVariants.{Header, Count}
use Rattle.mdcc_frag.specs.Datagrams.{message_limit, count}

-- the number of a centre, or 16 more for its client
abbrev pub is_endpoint : ℕ → Bool
is_endpoint n = nat_le 1 n && nat_le n 9 || nat_le 17 n && nat_le n 25

abbrev pub u32_from : ℕ → List ℕ → ℕ
u32_from offset bytes = from_le_bytes w32 (take 4 (drop offset bytes))

abbrev pub u16_at : ℕ → List ℕ → ℕ
u16_at offset bytes = from_le_bytes w16 (take 2 (drop offset bytes))

abbrev pub has_header : List ℕ → Bool
has_header bytes = nat_le 17 (length bytes) && is_endpoint (slice_index bytes 0)

-- what the header says
abbrev pub piece_at : List ℕ → Piece
piece_at bytes = record {
  head = record { sender = slice_index bytes 0; epoch = u32_from 1 bytes; serial = u32_from 5 bytes };
  total = u32_from 9 bytes;
  index = u16_at 13 bytes;
}

-- the bytes of the piece
abbrev pub payload : List ℕ → List ℕ
payload bytes = drop 17 bytes

-- how many bytes a piece has
abbrev pub piece_length : ℕ → ℕ → ℕ
piece_length total index = min 1383 (total - 1383 * index)

-- The message has 1 to 2,097,152 bytes and so many pieces, and one of this length at this index.
abbrev pub fits : Piece → ℕ → ℕ → Bool
fits piece pieces size =
    nat_le 1 piece.total && nat_le piece.total message_limit
    && pieces == count piece.total
    && nat_lt piece.index (count piece.total)
    && size == piece_length piece.total piece.index

-- which piece of which message a datagram has, or why it is dropped
abbrev pub piece_in : List ℕ → Result Piece DropCause
piece_in bytes =
    if has_header bytes
    then (if fits (piece_at bytes) (u16_at 15 bytes) (length (payload bytes)) then Ok (piece_at bytes) else Err Count)
    else Err Header

-- The message has such a piece, which lies in it and in a datagram, and has just so many bytes.
pub record FitsIn (piece : Piece) (size : ℕ) : Type 0 where
  pub some : 1 ≤ piece.total
  pub short : piece.total ≤ message_limit
  pub index : piece.index < count piece.total
  pub within : 1383 * piece.index + size ≤ piece.total
  pub most : size ≤ 1383
  pub exact : size ≡ piece_length piece.total piece.index
