-- A table of messages of which some pieces came, the most recently used first, and what a datagram makes of it.
use Rattle.std.specs.Prelude.{◌≡◌, ℕ, Bool, true, false, ◌==◌, ◌&&◌, nat_eq, List, ◌∷◌, length, take, if◌then◌else◌, Option, Some, None, Result, Ok, Err}
use Rattle.std.specs.Map.{lookup, lookup_entry, remove_entry}
use Rattle.mdcc_frag.specs.declared.datagrams.FragHead.{FragHead}
use Rattle.mdcc_frag.specs.declared.reading.Piece.{Piece}
use Rattle.mdcc_frag.specs.declared.reading.DropCause.{DropCause}
use Rattle.mdcc_frag.specs.declared.reading.DropCause.TheVariants.{Disagrees}
use Rattle.mdcc_frag.specs.declared.joined.Joined.{Joined}
use Rattle.mdcc_frag.specs.declared.joined.Joined.TheVariants.{Whole, Kept, Repeated, Dropped}
use Rattle.mdcc_frag.specs.declared.joined.NextStep.{NextStep}
use Rattle.mdcc_frag.specs.declared.joined.NextStep.TheVariants.{Begin, Disagree, Repeat, Advance}
use Rattle.mdcc_frag.specs.Reading.{payload, piece_in}
use Rattle.mdcc_frag.specs.Partial.{PartialMessage, nothing_of, with_piece, is_piece_held, is_whole}

abbrev pub JoinEntry : Type 0
JoinEntry = FragHead × PartialMessage

abbrev pub same_head : FragHead → FragHead → Bool
same_head a b = nat_eq a.sender b.sender && (nat_eq a.epoch b.epoch && nat_eq a.serial b.serial)

-- the entry of the message that a piece belongs to, and the entries of the others
abbrev pub entry_of : Piece → List JoinEntry → Option JoinEntry
entry_of piece entries = lookup_entry (same_head piece.head) entries

abbrev pub others : Piece → List JoinEntry → List JoinEntry
others piece entries = remove_entry (same_head piece.head) entries

-- the answer, and the table behind it
pub record JoinStep : Type 0 where
  pub answer : Joined
  pub entries : List JoinEntry

abbrev pub join_step : Joined → List JoinEntry → JoinStep
join_step answer entries = record { answer = answer; entries = entries }

-- a message that has all pieces leaves the table
abbrev pub piece_arrived : PartialMessage → List JoinEntry → List JoinEntry → JoinStep
piece_arrived message without with =
    if is_whole message then join_step (Whole message.bytes) without else join_step Kept with

-- The first piece of a message goes in front, and the least recently used of 64 goes.
abbrev pub first_piece : Piece → List ℕ → List JoinEntry → JoinStep
first_piece piece bytes entries =
    piece_arrived (with_piece piece.index bytes (nothing_of piece.total)) entries
    ((piece.head, with_piece piece.index bytes (nothing_of piece.total)) ∷ take 63 entries)

abbrev pub missing_piece : Piece → List ℕ → JoinEntry → List JoinEntry → JoinStep
missing_piece piece bytes entry rest =
    piece_arrived (with_piece piece.index bytes entry.1) rest ((entry.0, with_piece piece.index bytes entry.1) ∷ rest)

-- a piece of a message of which some came
abbrev pub known_piece : Piece → List ℕ → JoinEntry → List JoinEntry → JoinStep
known_piece piece bytes entry entries =
    if length entry.1.bytes == piece.total
    then (if is_piece_held piece.index entry.1
    then join_step Repeated (entry ∷ others piece entries)
    else missing_piece piece bytes entry (others piece entries))
    else join_step (Dropped Disagrees) entries

abbrev pub take_piece : Piece → List ℕ → List JoinEntry → Option JoinEntry → JoinStep
take_piece piece bytes entries None = first_piece piece bytes entries
take_piece piece bytes entries (Some entry) = known_piece piece bytes entry entries

abbrev pub take_read : Result Piece DropCause → List ℕ → List JoinEntry → JoinStep
take_read (Ok piece) bytes entries = take_piece piece bytes entries (entry_of piece entries)
take_read (Err cause) bytes entries = join_step (Dropped cause) entries

-- what comes of a datagram
abbrev pub join : List ℕ → List JoinEntry → JoinStep
join datagram entries = take_read (piece_in datagram) (payload datagram) entries

-- Whether a piece is taken: it came for the first time, and is none that is dropped.
abbrev pub is_taken : Joined → Bool
is_taken (Whole bytes) = true
is_taken Kept = true
is_taken Repeated = false
is_taken (Dropped cause) = false

-- which of the four a piece is
abbrev pub known_step : Piece → PartialMessage → NextStep
known_step piece message =
    if length message.bytes == piece.total
    then (if is_piece_held piece.index message then Repeat else Advance)
    else Disagree

abbrev pub next_step : Piece → Option PartialMessage → NextStep
next_step piece None = Begin
next_step piece (Some message) = known_step piece message

abbrev pub message_of : Piece → List JoinEntry → Option PartialMessage
message_of piece entries = lookup (same_head piece.head) entries

-- What a table becomes when it takes a piece that was missing, and whether all pieces are there then.
pub record IsPieceTaken (piece : Piece) (bytes : List ℕ) (old : List JoinEntry) (complete : Bool) (new : List JoinEntry) : Type 0 where
  pub entry : JoinEntry
  pub was : entry_of piece old ≡ Some entry
  pub whole : complete ≡ is_whole (with_piece piece.index bytes entry.1)
  pub is : new ≡ (entry.0, with_piece piece.index bytes entry.1) ∷ others piece old
