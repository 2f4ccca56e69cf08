-- What a link in memory stores: the bytes of all datagrams one after the other, and pieces of them.
use Rattle.std.specs.Prelude.{◌≡◌, ℕ, ◌+◌, ◌≤◌, List, [], ◌∷◌, ◌++◌, take, drop, Option, Some, None}
use Rattle.mdcc_link.specs.declared.stored.Bound.{Bound}
use Rattle.mdcc_link.specs.declared.stored.Piece.{Piece}
use Rattle.mdcc_link.specs.declared.stored.Noted.{Noted}
use Rattle.mdcc_link.specs.declared.stored.Noted.TheVariants as noted
use Rattle.mdcc_link.specs.declared.stored.Note.{Note}
use Rattle.mdcc_link.specs.declared.stored.Dispatch.{Dispatch}
use Rattle.mdcc_link.specs.declared.stored.Pending.{Pending}
use Rattle.mdcc_link.specs.Link.{LinkCall}
use Rattle.mdcc_link.specs.Link.LinkCall.{Bind, Send, Receive}
use Rattle.mdcc_link.specs.Memory.{SentDatagram, Waiting, bound_after, sent_after, waiting_after}

abbrev pub bytes_of : Piece → List ℕ → List ℕ
bytes_of piece pool = take piece.count (drop piece.start pool)

abbrev pub link_call_of : Noted → List ℕ → LinkCall
link_call_of (noted.Bind at address result) bytes = Bind at address result
link_call_of (noted.Send from to result) bytes = Send from to bytes result
link_call_of (noted.Receive at size result) bytes = Receive at size result bytes

abbrev pub note_in : List ℕ → Note → LinkCall
note_in pool note = link_call_of note.call (bytes_of note.piece pool)

abbrev pub sent_in : List ℕ → Dispatch → SentDatagram
sent_in pool sent = record { from = sent.from; to = sent.to; bytes = bytes_of sent.piece pool }

abbrev pub waiting_in : List ℕ → Pending → Waiting
waiting_in pool pending = record { at = pending.at; bytes = bytes_of pending.piece pool }

-- a piece waits at the endpoint, behind all others; with no endpoint it waits nowhere
abbrev pub pending_after : Option ℕ → Piece → List Pending → List Pending
pending_after None piece queue = queue
pending_after (Some at) piece queue = queue ++ record { at = at; piece = piece } ∷ []

-- the piece ends within so many bytes
abbrev pub IsPieceWithin : ℕ → Piece → Type 0
IsPieceWithin size piece = piece.start + piece.count ≤ size

abbrev pub ArePiecesWithin : {E : Type 0} → (E → Piece) → ℕ → List E → Type 0
ArePiecesWithin piece size [] = Unit {0}
ArePiecesWithin piece size (e ∷ es) = IsPieceWithin size (piece e) × ArePiecesWithin piece size es

-- the calls, the addresses bound, the datagrams sent and those that wait, and for how many further calls, with how many
-- bytes, memory is surely there
pub record LinkStore : Type 0 where
  pub calls : List LinkCall
  pub bound : List Bound
  pub sent : List SentDatagram
  pub waiting : List Waiting
  pub call_room : ℕ
  pub byte_room : ℕ

abbrev pub link_store_of : List LinkCall → List Bound → List SentDatagram → List Waiting → ℕ → ℕ → LinkStore
link_store_of calls bound sent waiting call_room byte_room = record {
  calls = calls;
  bound = bound;
  sent = sent;
  waiting = waiting;
  call_room = call_room;
  byte_room = byte_room;
}

-- these are the contents, whatever memory is there
abbrev pub IsLinkStore : List LinkCall → List Bound → List SentDatagram → List Waiting → LinkStore → Type 0
IsLinkStore calls bound sent waiting store = store ≡ link_store_of calls bound sent waiting store.call_room store.byte_room

-- the contents after a call
abbrev pub MakesContents : LinkCall → LinkStore → LinkStore → Type 0
MakesContents call old new =
    IsLinkStore (old.calls ++ call ∷ []) (bound_after call old.bound) (sent_after call old.sent) (waiting_after call old.bound old.waiting) new

-- all pieces are there
pub record HasPieces (size : ℕ) (notes : List Note) (sends : List Dispatch) (queue : List Pending) : Type 0 where
  pub calls : ArePiecesWithin (λ (n : Note). n.piece) size notes
  pub sent : ArePiecesWithin (λ (s : Dispatch). s.piece) size sends
  pub waiting : ArePiecesWithin (λ (p : Pending). p.piece) size queue
