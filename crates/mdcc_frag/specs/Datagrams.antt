-- The datagrams of a message, as they are written.
--
-- A message is cut into pieces of 1,383 bytes, of which the last has the rest. A datagram is a header of 17 bytes and a piece.
use Rattle.std.specs.Prelude.{ℕ, ◌+◌, ◌*◌, ◌/◌, List, ◌∷◌, ◌++◌, length, take, drop}
use Rattle.std.specs.Int.{w16, w32, to_le_bytes}
use Rattle.mdcc_frag.specs.declared.datagrams.FragHead.{FragHead}

-- the most bytes of a message
abbrev pub message_limit : ℕ
message_limit = 2097152

-- how many pieces a message of this length has
abbrev pub count : ℕ → ℕ
count total = (total + 1382) / 1383

abbrev pub piece_of : ℕ → List ℕ → List ℕ
piece_of index message = take 1383 (drop (1383 * index) message)

-- whose message it is and of which length, which piece it is and of how many
abbrev pub header : FragHead → ℕ → ℕ → List ℕ
header head total index =
    head.sender ∷ (to_le_bytes w32 head.epoch ++ to_le_bytes w32 head.serial ++ to_le_bytes w32 total ++ to_le_bytes w16 index ++ to_le_bytes w16 (count total))

abbrev pub datagram : FragHead → ℕ → List ℕ → List ℕ
datagram head index message = header head (length message) index ++ piece_of index message
