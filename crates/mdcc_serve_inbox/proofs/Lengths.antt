-- How long a message is that comes whole.
use Rattle.std.proofs.Common.{◌≡◌, ℕ, ◌+◌, ◌*◌, ◌≤◌, ◌==◌, Bool, true, false, List, ◌∷◌, ◌++◌, length, take, drop, Option, Some, None, Result, Ok, Err, if◌then◌else◌, refl, sym, arith, subst, length-append, length-drop, length-take}
use Rattle.std.proofs.lemmas.List.{length-replicate}
use Rattle.std.proofs.lemmas.Bool.{eqb-true}
use Rattle.mdcc_frag.specs.Joining.{JoinEntry, entry_of, first_piece, join, join_step, missing_piece, others, take_piece, take_read}
use Rattle.mdcc_frag.specs.Partial.{PartialMessage, is_piece_held, is_whole, nothing_of, with_piece, with_piece_bytes}
use Rattle.mdcc_frag.specs.Reading.{fits, payload, piece_at, piece_in, u16_at, has_header}
use Rattle.mdcc_frag.specs.declared.joined.Joined.{Joined}
use Rattle.mdcc_frag.specs.declared.joined.Joined.TheVariants.{Whole}
use Rattle.mdcc_frag.specs.declared.reading.DropCause.{DropCause}
use Rattle.mdcc_frag.specs.declared.reading.Piece.{Piece}

-- a piece lies in its message, which is no longer than a message may be
pub record LiesIn (piece : Piece) (size : ℕ) : Type 0 where
  pub short : piece.total ≤ 2097152
  pub within : 1383 * piece.index + size ≤ piece.total

pub fits_in : (piece : Piece) (pieces size : ℕ) → fits piece pieces size ≡ true → LiesIn piece size
fits_in piece pieces size h = record {
  short = grind (arith, h);
  within = grind (arith, h);
}

pub length_overwritten : (offset : ℕ) (piece bytes : List ℕ) → offset + length piece ≤ length bytes → length (with_piece_bytes offset piece bytes) ≡ length bytes
length_overwritten offset piece bytes within =
    let a = length-append (take offset bytes ++ piece) (drop (offset + length piece) bytes) in
    let b = length-append (take offset bytes) piece in
    let c = length-take offset bytes in
    let d = length-drop (offset + length piece) bytes in
    omega (a, b, c, d, within, arith)

-- ---- what comes whole

short_by_whole : (whole : Bool) (all bytes : List ℕ) (without with : List JoinEntry) → length all ≤ 2097152
    → (if whole then join_step (Whole all) without else join_step Joined.Kept with).answer ≡ Whole bytes → length bytes ≤ 2097152
short_by_whole true all bytes without with few is = let same : all ≡ bytes = cc in subst (λ (xs : List ℕ). length xs ≤ 2097152) same few
short_by_whole false all bytes without with few is = absurd (cc)

with_piece_long : (piece : Piece) (found : List ℕ) (message : PartialMessage) → LiesIn piece (length found) → length message.bytes ≡ piece.total
    → length (with_piece piece.index found message).bytes ≤ 2097152
with_piece_long piece found message lies long =
    let e = length_overwritten (1383 * piece.index) found message.bytes (omega (lies.within, long, arith)) in
    omega (e, long, lies.short, arith)

first_short : (piece : Piece) (found : List ℕ) (entries : List JoinEntry) (bytes : List ℕ) → LiesIn piece (length found)
    → (first_piece piece found entries).answer ≡ Whole bytes → length bytes ≤ 2097152
first_short piece found entries bytes lies is =
    short_by_whole (is_whole (with_piece piece.index found (nothing_of piece.total))) _ bytes _ _
    (with_piece_long piece found (nothing_of piece.total) lies (length-replicate piece.total 0)) is

known_short : (same held : Bool) (piece : Piece) (found : List ℕ) (entry : JoinEntry) (rest entries : List JoinEntry) (bytes : List ℕ)
    → (same ≡ true → length entry.1.bytes ≡ piece.total) → LiesIn piece (length found)
    → (if same then (if held then join_step Joined.Repeated (entry ∷ rest) else missing_piece piece found entry rest) else join_step (Joined.Dropped DropCause.Disagrees) entries).answer ≡ Whole bytes
    → length bytes ≤ 2097152
known_short true true piece found entry rest entries bytes long lies is = absurd (cc)
known_short true false piece found entry rest entries bytes long lies is =
    short_by_whole (is_whole (with_piece piece.index found entry.1)) _ bytes _ _ (with_piece_long piece found entry.1 lies (long refl)) is
known_short false held piece found entry rest entries bytes long lies is = absurd (cc)

taken_short : (o : Option JoinEntry) (piece : Piece) (found : List ℕ) (entries : List JoinEntry) (bytes : List ℕ) → LiesIn piece (length found)
    → (take_piece piece found entries o).answer ≡ Whole bytes → length bytes ≤ 2097152
taken_short None piece found entries bytes lies is = first_short piece found entries bytes lies is
taken_short (Some entry) piece found entries bytes lies is =
    known_short (length entry.1.bytes == piece.total) (is_piece_held piece.index entry.1) piece found entry (others piece entries) entries bytes
    (λ same. eqb-true (length entry.1.bytes) piece.total same) lies is

read_lies : (bytes : List ℕ) (h f : Bool) (piece read : Piece) → f ≡ fits read (u16_at 15 bytes) (length (payload bytes))
    → (if h then (if f then Ok read else Err DropCause.Count) else Err DropCause.Header) ≡ Ok piece → LiesIn piece (length (payload bytes))
read_lies bytes true true piece read is taken =
    let same : read ≡ piece = cc in subst (λ (p : Piece). LiesIn p (length (payload bytes))) same (fits_in read (u16_at 15 bytes) (length (payload bytes)) (sym is))
read_lies bytes true false piece read is taken = absurd (cc)
read_lies bytes false f piece read is taken = absurd (cc)

by_read : (r : Result Piece DropCause) (found : List ℕ) (entries : List JoinEntry) (bytes : List ℕ)
    → ((piece : Piece) → r ≡ Ok piece → LiesIn piece (length found)) → (take_read r found entries).answer ≡ Whole bytes → length bytes ≤ 2097152
by_read (Ok piece) found entries bytes lies is = taken_short (entry_of piece entries) piece found entries bytes (lies piece refl) is
by_read (Err cause) found entries bytes lies is = absurd (cc)

pub whole_short : (datagram : List ℕ) (entries : List JoinEntry) (bytes : List ℕ) → (join datagram entries).answer ≡ Whole bytes → length bytes ≤ 2097152
whole_short datagram entries bytes is =
    by_read (piece_in datagram) (payload datagram) entries bytes
    (λ piece taken. read_lies datagram (has_header datagram) (fits (piece_at datagram) (u16_at 15 datagram) (length (payload datagram))) piece (piece_at datagram) refl taken) is
