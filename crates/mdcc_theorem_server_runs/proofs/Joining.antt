-- What the entries of a table keep to, whatever datagram it takes.
use Rattle.std.proofs.Common.{◌≡◌, ℕ, zero, suc, ◌+◌, ◌*◌, ◌≤◌, Bool, true, false, ◌&&◌, nat_eq, List, [], ◌∷◌, ◌++◌, length, take, drop, replicate, if◌then◌else◌, Option, Some, None, Result, Ok, Err, refl, sym, subst, inl, inr, arith, length-append, length-drop, length-take}
use Rattle.std.proofs.lemmas.Bool.{eqb-true}
use Rattle.std.proofs.lemmas.List.{length-replicate}
use Rattle.std.specs.Prelude.{Contains}
use Rattle.lru.proofs.Splits.{Contains-cons}
use Rattle.lru.proofs.CallerLemmas.{Contains-lookup_entry, Contains-remove_entry, Contains-take}
use Rattle.mdcc_frag.specs.Joining.{JoinEntry, JoinStep, entry_of, join, join_step, others, piece_arrived, same_head, take_piece, take_read}
use Rattle.mdcc_frag.specs.Partial.{PartialMessage, is_whole, nothing_of, with_piece, with_piece_bytes}
use Rattle.mdcc_frag.specs.Reading.{fits, has_header, payload, piece_at, piece_in, piece_length, u16_at}
use Rattle.mdcc_frag.specs.declared.datagrams.FragHead.{FragHead}
use Rattle.mdcc_frag.specs.declared.joined.Joined.TheVariants.{Dropped, Kept, Repeated, Whole}
use Rattle.mdcc_frag.specs.declared.reading.DropCause.{DropCause}
use Rattle.mdcc_frag.specs.declared.reading.DropCause.TheVariants.{Count, Disagrees, Header}
use Rattle.mdcc_frag.specs.declared.reading.Piece.{Piece}
use Rattle.mdcc_theorem_encoding.specs.Laws.{AreBytes}

-- ---- heads

left : (a b : Bool) → (a && b) ≡ true → a ≡ true
left true b h = refl
left false b h = cc

right : (a b : Bool) → (a && b) ≡ true → b ≡ true
right true b h = h
right false b h = cc

heads_of : (s s' e e' n n' : ℕ) → s ≡ s' → e ≡ e' → n ≡ n' →
    (let H : FragHead = record { sender = s; epoch = e; serial = n } in H) ≡ record { sender = s'; epoch = e'; serial = n' }
heads_of s s' e e' n n' a b c = cc

same_heads : (a b : FragHead) → same_head a b ≡ true → a ≡ b
same_heads a b h =
    let rest = right (nat_eq a.sender b.sender) _ h in
    heads_of a.sender b.sender a.epoch b.epoch a.serial b.serial
    (eqb-true a.sender b.sender (left _ _ h))
    (eqb-true a.epoch b.epoch (left _ _ rest))
    (eqb-true a.serial b.serial (right (nat_eq a.epoch b.epoch) _ rest))

-- ---- entries

-- each entry of a table keeps to it
abbrev pub Each : (JoinEntry → Type 0) → List JoinEntry → Type 0
Each R entries = (entry : JoinEntry) → Contains entries entry → R entry

-- The bytes that come whole are those of a message that keeps to it.
pub record Comes (W : JoinEntry → Type 0) (bytes : List ℕ) : Type 0 where
  pub entry : JoinEntry
  pub keeps : W entry
  pub are : (entry.1).bytes ≡ bytes
  pub all : is_whole entry.1 ≡ true

pub record Keeps (R W : JoinEntry → Type 0) (made : JoinStep) : Type 0 where
  pub entries : Each R made.entries
  pub whole : (bytes : List ℕ) → made.answer ≡ Whole bytes → Comes W bytes

-- A property of entries, R, that a table has after a datagram where it had Q before, and one of a message that comes whole.
module _ (datagram : List ℕ) (Q R W : JoinEntry → Type 0) (weaken : (entry : JoinEntry) → Q entry → R entry)
    (fresh : (piece : Piece) → piece_in datagram ≡ Ok piece
    → (let e : JoinEntry = (piece.head, with_piece piece.index (payload datagram) (nothing_of piece.total)) in R e × W e))
    (more : (piece : Piece) → piece_in datagram ≡ Ok piece → (entry : JoinEntry) → Q entry → piece.head ≡ entry.0 → length (entry.1).bytes ≡ piece.total
    → (let e : JoinEntry = (entry.0, with_piece piece.index (payload datagram) entry.1) in R e × W e)) where
  in_front : (first : JoinEntry) (rest : List JoinEntry) → R first → Each R rest → Each R (first ∷ rest)
  in_front first rest own each entry c = elim (Contains-cons first rest entry c) [
    | inl e ↦ subst R e own
    | inr d ↦ each entry d
  ]

  arrived_keeps : (first : JoinEntry) (without rest : List JoinEntry) (all : Bool) → is_whole first.1 ≡ all → R first × W first → Each R without → Each R rest
      → Keeps R W (if all then join_step (Whole (first.1).bytes) without else join_step Kept (first ∷ rest))
  arrived_keeps first without rest true is own without_keep rest_keep = record {
    entries = without_keep;
    whole = λ bytes whole. let same : (first.1).bytes ≡ bytes = cc in record { entry = first; keeps = own.1; are = same; all = is };
  }
  arrived_keeps first without rest false is own without_keep rest_keep = record {
    entries = in_front first rest own.0 rest_keep;
    whole = λ bytes whole. absurd (cc);
  }

  weakly : (entries : List JoinEntry) → Each Q entries → Each R entries
  weakly entries each entry c = weaken entry (each entry c)

  known_keeps : (piece : Piece) (entry : JoinEntry) (entries : List JoinEntry) (same held : Bool) → Q entry → (same ≡ true → (let e : JoinEntry = (entry.0, with_piece piece.index (payload datagram) entry.1) in R e × W e))
      → Each Q entries → Each Q (others piece entries)
      → Keeps R W (if same then (if held then join_step Repeated (entry ∷ others piece entries)
      else piece_arrived (with_piece piece.index (payload datagram) entry.1) (others piece entries) ((entry.0, with_piece piece.index (payload datagram) entry.1) ∷ others piece entries))
      else join_step (Dropped Disagrees) entries)
  known_keeps piece entry entries true true own next each rest = record {
    entries = in_front entry (others piece entries) (weaken entry own) (weakly (others piece entries) rest);
    whole = λ bytes whole. absurd (cc);
  }
  known_keeps piece entry entries true false own next each rest =
      arrived_keeps (entry.0, with_piece piece.index (payload datagram) entry.1) (others piece entries) (others piece entries) _ refl
      (next refl) (weakly (others piece entries) rest) (weakly (others piece entries) rest)
  known_keeps piece entry entries false held own next each rest = record {
    entries = weakly entries each;
    whole = λ bytes whole. absurd (cc);
  }

  taken_keeps : (piece : Piece) (entries : List JoinEntry) (o : Option JoinEntry) → piece_in datagram ≡ Ok piece → entry_of piece entries ≡ o → Each Q entries
      → Keeps R W (take_piece piece (payload datagram) entries o)
  taken_keeps piece entries None read found each =
      arrived_keeps (piece.head, with_piece piece.index (payload datagram) (nothing_of piece.total)) entries (take 63 entries) _ refl
      (fresh piece read) (weakly entries each) (λ entry c. weaken entry (each entry (Contains-take 63 entries entry c)))
  taken_keeps piece entries (Some entry) read found each =
      let there = Contains-lookup_entry (same_head piece.head) entries entry found in
      let own = each entry there.0 in
      known_keeps piece entry entries _ _ own
      (λ same. more piece read entry own (same_heads piece.head entry.0 there.1) (eqb-true (length (entry.1).bytes) piece.total same))
      each (λ e c. each e (Contains-remove_entry (same_head piece.head) entries e c))

  read_keeps : (entries : List JoinEntry) (read : Result Piece DropCause) → piece_in datagram ≡ read → Each Q entries → Keeps R W (take_read read (payload datagram) entries)
  read_keeps entries (Ok piece) is each = taken_keeps piece entries (entry_of piece entries) is refl each
  read_keeps entries (Err cause) is each = record { entries = weakly entries each; whole = λ bytes whole. absurd (cc) }

  pub join_keeps : (entries : List JoinEntry) → Each Q entries → Keeps R W (join datagram entries)
  join_keeps entries each = read_keeps entries (piece_in datagram) refl each

-- ---- what is read of a datagram

-- the piece lies in its message, which is no longer than a message may be
pub record LiesIn (piece : Piece) (size : ℕ) : Type 0 where
  pub short : piece.total ≤ 2097152
  pub within : 1383 * piece.index + size ≤ piece.total
  pub long : size ≡ piece_length piece.total piece.index

fits_in : (piece : Piece) (pieces size : ℕ) → fits piece pieces size ≡ true → LiesIn piece size
fits_in piece pieces size h = record {
  short = grind (arith, h);
  within = grind (arith, h);
  long = grind (arith, h);
}

read_lies : (bytes : List ℕ) (h f : Bool) (piece read : Piece) → f ≡ fits read (u16_at 15 bytes) (length (payload bytes))
    → (if h then (if f then Ok read else Err Count) else Err Header) ≡ Ok piece → LiesIn piece (length (payload bytes))
read_lies bytes true true piece read is taken =
    let same : read ≡ piece = cc in subst (λ (p : Piece). LiesIn p (length (payload bytes))) same (fits_in read (u16_at 15 bytes) (length (payload bytes)) (sym is))
read_lies bytes true false piece read is taken = absurd (cc)
read_lies bytes false f piece read is taken = absurd (cc)

pub piece_lies : (datagram : List ℕ) (piece : Piece) → piece_in datagram ≡ Ok piece → LiesIn piece (length (payload datagram))
piece_lies datagram piece read =
    read_lies datagram (has_header datagram) (fits (piece_at datagram) (u16_at 15 datagram) (length (payload datagram))) piece (piece_at datagram) refl read

pub length_overwritten : (offset : ℕ) (piece bytes : List ℕ) → offset + length piece ≤ length bytes → length (with_piece_bytes offset piece bytes) ≡ length bytes
length_overwritten offset piece bytes within =
    let a = length-append (take offset bytes ++ piece) (drop (offset + length piece) bytes) in
    let b = length-append (take offset bytes) piece in
    let c = length-take offset bytes in
    let d = length-drop (offset + length piece) bytes in
    omega (a, b, c, d, within, arith)

-- ---- lengths and bytes

pub piece_long : (piece : Piece) (found : List ℕ) (there : PartialMessage) → LiesIn piece (length found) → length there.bytes ≡ piece.total
    → length (with_piece piece.index found there).bytes ≡ piece.total
piece_long piece found there lies long =
    let e = length_overwritten (1383 * piece.index) found there.bytes (let w = lies.within in omega (w, long, arith)) in
    omega (e, long, arith)

each_byte_take : (n : ℕ) (bytes : List ℕ) → AreBytes bytes → AreBytes (take n bytes)
each_byte_take zero bytes are = tt
each_byte_take (suc n) [] are = tt
each_byte_take (suc n) (b ∷ bytes) are = (are.0, each_byte_take n bytes are.1)

pub each_byte_drop : (n : ℕ) (bytes : List ℕ) → AreBytes bytes → AreBytes (drop n bytes)
each_byte_drop zero bytes are = are
each_byte_drop (suc n) [] are = tt
each_byte_drop (suc n) (b ∷ bytes) are = each_byte_drop n bytes are.1

each_byte_append : (xs ys : List ℕ) → AreBytes xs → AreBytes ys → AreBytes (xs ++ ys)
each_byte_append [] ys one two = two
each_byte_append (x ∷ xs) ys one two = (one.0, each_byte_append xs ys one.1 two)

zeros_are_bytes : (n : ℕ) → AreBytes (replicate n 0)
zeros_are_bytes zero = tt
zeros_are_bytes (suc n) = (omega arith, zeros_are_bytes n)

overwritten_bytes : (offset : ℕ) (piece bytes : List ℕ) → AreBytes piece → AreBytes bytes → AreBytes (with_piece_bytes offset piece bytes)
overwritten_bytes offset piece bytes one two =
    each_byte_append (take offset bytes ++ piece) (drop (offset + length piece) bytes)
    (each_byte_append (take offset bytes) piece (each_byte_take offset bytes two) one)
    (each_byte_drop (offset + length piece) bytes two)

abbrev HasBytes : JoinEntry → Type 0
HasBytes entry = AreBytes (entry.1).bytes

-- a message that comes whole has bytes, and is no longer than a message may be
abbrev pub IsShort : JoinEntry → Type 0
IsShort entry = AreBytes (entry.1).bytes × (length (entry.1).bytes ≤ 2097152)

piece_sound : (datagram : List ℕ) (piece : Piece) (head : FragHead) (there : PartialMessage) → AreBytes datagram → piece_in datagram ≡ Ok piece
    → AreBytes there.bytes → length there.bytes ≡ piece.total
    → (let e : JoinEntry = (head, with_piece piece.index (payload datagram) there) in HasBytes e × IsShort e)
piece_sound datagram piece head there came read bytes long =
    let lies = piece_lies datagram piece read in
    let now = overwritten_bytes (1383 * piece.index) (payload datagram) there.bytes (each_byte_drop 17 datagram came) bytes in
    let size = piece_long piece (payload datagram) there lies long in
    let short = lies.short in
    (now, (now, omega (size, short, arith)))

pub bytes_keep : (datagram : List ℕ) (entries : List JoinEntry) → AreBytes datagram → Each HasBytes entries → Keeps HasBytes IsShort (join datagram entries)
bytes_keep datagram entries came each =
    join_keeps datagram HasBytes HasBytes IsShort (λ entry is. is)
    (λ piece read. piece_sound datagram piece piece.head (nothing_of piece.total) came read (zeros_are_bytes piece.total) (length-replicate piece.total 0))
    (λ piece read entry is head long. piece_sound datagram piece entry.0 entry.1 came read is long)
    entries each
