-- A message of which some pieces came.
use Rattle.std.specs.Prelude.{ℕ, ◌+◌, ◌*◌, Bool, false, true, List, ◌++◌, length, take, drop, replicate, slice_set, slice_index_or}
use Rattle.std.specs.List.{list_all}
use Rattle.mdcc_frag.specs.Datagrams.{count}

-- Its bytes, which are zero where no piece came, and for each piece whether it came.
pub record PartialMessage : Type 0 where
  pub bytes : List ℕ
  pub held : List Bool

-- a message of this length of which no piece came
abbrev pub nothing_of : ℕ → PartialMessage
nothing_of total = record { bytes = replicate total 0; held = replicate (count total) false }

-- the bytes with these in place of as many from an offset on
abbrev pub with_piece_bytes : ℕ → List ℕ → List ℕ → List ℕ
with_piece_bytes offset piece bytes = take offset bytes ++ piece ++ drop (offset + length piece) bytes

-- the message with the piece of this index
abbrev pub with_piece : ℕ → List ℕ → PartialMessage → PartialMessage
with_piece index piece message = record {
  bytes = with_piece_bytes (1383 * index) piece message.bytes;
  held = slice_set message.held index true;
}

abbrev pub is_piece_held : ℕ → PartialMessage → Bool
is_piece_held index message = slice_index_or message.held index false

-- all pieces came
abbrev pub is_whole : PartialMessage → Bool
is_whole message = list_all (λ came. came) message.held
