-- A datagram is read as it was written.
use Rattle.std.proofs.Common.{◌≡◌, ℕ, ◌+◌, ◌*◌, ◌/◌, ◌^◌, ◌<◌, ◌≤◌, Bool, true, false, ◌&&◌, min, List, length, drop, Ok, refl, ◌∙◌, ap, arith, eq-eqb}
use Rattle.std.proofs.lemmas.Bool.{le-leb, lt-ltb}
use Rattle.std.proofs.lemmas.Nat.{from_le_bytes-to_le_bytes_2, from_le_bytes-to_le_bytes_4}
use Rattle.std.proofs.lemmas.List.{length-append, length-take, length-drop}
use Rattle.mdcc_frag.specs.declared.datagrams.FragHead.{FragHead}
use Rattle.mdcc_frag.specs.declared.reading.Piece.{Piece}
use Rattle.mdcc_frag.specs.Datagrams.{message_limit, count, piece_of, header, datagram}
use Rattle.mdcc_frag.specs.Reading.{u16_at, has_header, piece_at, payload, piece_length, fits, piece_in}
use Rattle.mdcc_theorem_datagrams.specs.Laws.{IsFragHead, IsMessage, IsPieceRead}

both : (a b : Bool) → a ≡ true → b ≡ true → (a && b) ≡ true
both true true g h = refl
both true false g h = cc
both false b g h = cc

piece_is : (sender e e' s s' t t' i i' : ℕ) → e ≡ e' → s ≡ s' → t ≡ t' → i ≡ i' →
    (let P : Piece = record { head = record { sender = sender; epoch = e; serial = s }; total = t; index = i } in P)
    ≡ record { head = record { sender = sender; epoch = e'; serial = s' }; total = t'; index = i' }
piece_is sender e e' s s' t t' i i' a b c d = cc

few : (n : ℕ) → n ≤ 2097152 → (n + 1382) / 1383 < 2 ^ 16
few n h = omega arith

small : (n : ℕ) → n ≤ 2097152 → n < 2 ^ 32
small n h = omega arith

within : (i n : ℕ) → i < n → n < 2 ^ 16 → i < 2 ^ 16
within i n g h = omega arith

does_fit : (piece : Piece) (pieces size : ℕ) → 1 ≤ piece.total → piece.total ≤ message_limit → pieces ≡ count piece.total →
    piece.index < count piece.total → size ≡ piece_length piece.total piece.index → fits piece pieces size ≡ true
does_fit piece pieces size some short all index whole =
    both _ _ (both _ _ (both _ _ (both _ _ (le-leb 1 piece.total some) (le-leb piece.total message_limit short))
    (eq-eqb pieces (count piece.total) all)) (lt-ltb piece.index (count piece.total) index)) (eq-eqb size (piece_length piece.total piece.index) whole)

piece_size : (index : ℕ) (message : List ℕ) → length (piece_of index message) ≡ piece_length (length message) index
piece_size index message = length-take 1383 (drop (1383 * index) message) ∙ ap (min 1383) (length-drop (1383 * index) message)

read_as : (bytes : List ℕ) (piece : Piece) → has_header bytes ≡ true → piece_at bytes ≡ piece →
    fits piece (u16_at 15 bytes) (length (payload bytes)) ≡ true → piece_in bytes ≡ Ok piece
read_as bytes piece headed is fit =
    let fit' : fits (piece_at bytes) (u16_at 15 bytes) (length (payload bytes)) ≡ true =
    ap (λ p. fits p (u16_at 15 bytes) (length (payload bytes))) is ∙ fit in
    let same : piece_in bytes ≡ Ok (piece_at bytes) = rw headed (rw fit' refl) in
    same ∙ ap Ok is

pub datagram_read : (head : FragHead) (index : ℕ) (message : List ℕ) → IsFragHead head → IsMessage message → index < count (length message) →
    IsPieceRead head index message
datagram_read head index message h m i =
    let all = few (length message) m.short in
    let front = header head (length message) index in
    let size = length-append front (piece_of index message) in
    let read : Piece = record { head = head; total = length message; index = index } in
    let long : 17 ≤ length (datagram head index message) = omega arith in
    record {
      piece = read_as (datagram head index message) read
          (both _ _ (le-leb 17 (length (datagram head index message)) long) h.sender)
          (piece_is head.sender _ head.epoch _ head.serial _ (length message) _ index
          (from_le_bytes-to_le_bytes_4 head.epoch h.epoch) (from_le_bytes-to_le_bytes_4 head.serial h.serial)
          (from_le_bytes-to_le_bytes_4 (length message) (small (length message) m.short))
          (from_le_bytes-to_le_bytes_2 index (within index (count (length message)) i all)))
          (does_fit read _ _ m.some m.short (from_le_bytes-to_le_bytes_2 (count (length message)) all) i (piece_size index message));
      bytes = refl;
    }
