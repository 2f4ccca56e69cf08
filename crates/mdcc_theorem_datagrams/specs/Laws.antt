-- What was cut is joined again, in whatever order its pieces come.
use Rattle.std.specs.Prelude.{◌≡◌, ℕ, ◌^◌, ◌<◌, ◌≤◌, Bool, true, false, List, [], ◌∷◌, ◌++◌, length, take, drop, replicate, slice_set, Contains, if◌then◌else◌, Some, Ok}
use Rattle.std.specs.List.{list_all, AllByRecursion}
use Rattle.std.specs.Map.{lookup_entry}
use Rattle.mdcc_frag.specs.declared.datagrams.FragHead.{FragHead}
use Rattle.mdcc_frag.specs.declared.reading.Piece.{Piece}
use Rattle.mdcc_frag.specs.declared.joined.Joined.TheVariants.{Whole}
use Rattle.mdcc_frag.specs.Datagrams.{message_limit, count, piece_of, datagram}
use Rattle.mdcc_frag.specs.Reading.{is_endpoint, payload, piece_in}
use Rattle.mdcc_frag.specs.Partial.{PartialMessage, nothing_of, with_piece}
use Rattle.mdcc_frag.specs.Joining.{JoinEntry, same_head, join}

-- an endpoint sends it, and its numbers have four bytes
pub record IsFragHead (head : FragHead) : Type 0 where
  pub sender : is_endpoint head.sender ≡ true
  pub epoch : head.epoch < 2 ^ 32
  pub serial : head.serial < 2 ^ 32

-- a message that may be sent
pub record IsMessage (message : List ℕ) : Type 0 where
  pub some : 1 ≤ length message
  pub short : length message ≤ message_limit

-- what a datagram is read as, and the bytes of its piece
pub record IsPieceRead (head : FragHead) (index : ℕ) (message : List ℕ) : Type 0 where
  pub piece : piece_in (datagram head index message) ≡ Ok (record { head = head; total = length message; index = index })
  pub bytes : payload (datagram head index message) ≡ piece_of index message

abbrev pub DatagramIsRead : Type 0
DatagramIsRead = (head : FragHead) (index : ℕ) (message : List ℕ) → IsFragHead head → IsMessage message → index < count (length message)
    → IsPieceRead head index message

-- the bytes of the pieces that came, and zeros for the others
abbrev pub partly_bytes : List Bool → List ℕ → List ℕ
partly_bytes [] message = []
partly_bytes (came ∷ held) message =
    (if came then take 1383 message else replicate (length (take 1383 message)) 0) ++ partly_bytes held (drop 1383 message)

-- a message of which these pieces came
abbrev pub partly : List Bool → List ℕ → PartialMessage
partly held message = record { bytes = partly_bytes held message; held = held }

abbrev pub NothingIsPartly : Type 0
NothingIsPartly = (message : List ℕ) → nothing_of (length message) ≡ partly (replicate (count (length message)) false) message

abbrev pub PieceIsTaken : Type 0
PieceIsTaken = (message : List ℕ) (held : List Bool) (index : ℕ) → length held ≡ count (length message) → index < length held
    → with_piece index (piece_of index message) (partly held message) ≡ partly (slice_set held index true) message

abbrev pub AllPiecesAreTheMessage : Type 0
AllPiecesAreTheMessage = (message : List ℕ) (held : List Bool) → length held ≡ count (length message) → list_all (λ came. came) held ≡ true
    → (partly held message).bytes ≡ message

-- some pieces of this message came, or none, and nothing else
abbrev pub IsPartly : List ℕ → PartialMessage → Type 0
IsPartly message there = (held : List Bool) × (length held ≡ count (length message)) × (there ≡ partly held message)

-- Where a table has an entry of this head, it has pieces of this message alone.
abbrev pub HoldsOnly : FragHead → List ℕ → List JoinEntry → Type 0
HoldsOnly head message entries = (entry : JoinEntry) → lookup_entry (same_head head) entries ≡ Some entry → IsPartly message entry.1

abbrev pub WholeIsTheMessage : Type 0
WholeIsTheMessage = (head : FragHead) (index : ℕ) (message : List ℕ) (entries : List JoinEntry) → IsFragHead head → IsMessage message
    → index < count (length message) → HoldsOnly head message entries
    → (bytes : List ℕ) → (join (datagram head index message) entries).answer ≡ Whole bytes → bytes ≡ message

-- It is a piece of this message.
pub record IsPieceOf (message : List ℕ) (piece : Piece) (found : List ℕ) : Type 0 where
  pub total : piece.total ≡ length message
  pub index : piece.index < count (length message)
  pub bytes : found ≡ piece_of piece.index message

-- Where a datagram is read as a piece under this head, it is one of this message. So are all datagrams of it, those of other
-- messages, and those that are dropped.
abbrev pub IsHonest : FragHead → List ℕ → List ℕ → Type 0
IsHonest head message bytes = (piece : Piece) → piece_in bytes ≡ Ok piece → same_head head piece.head ≡ true → IsPieceOf message piece (payload bytes)

-- Each entry of this head has pieces of this message alone.
abbrev pub AllHoldOnly : FragHead → List ℕ → List JoinEntry → Type 0
AllHoldOnly head message entries = (entry : JoinEntry) → Contains entries entry → same_head head entry.0 ≡ true → IsPartly message entry.1

-- the table after these datagrams
abbrev pub table_after : List (List ℕ) → List JoinEntry → List JoinEntry
table_after [] entries = entries
table_after (bytes ∷ more) entries = table_after more (join bytes entries).entries

abbrev pub JoinedFromAnything : Type 0
JoinedFromAnything = (head : FragHead) (index : ℕ) (message : List ℕ) (before : List (List ℕ)) → IsFragHead head → IsMessage message
    → index < count (length message) → AllByRecursion (IsHonest head message) before
    → (bytes : List ℕ) → (join (datagram head index message) (table_after before [])).answer ≡ Whole bytes → bytes ≡ message
