-- What comes whole came piece by piece.
use Rattle.std.proofs.Common.{◌≡◌, ℕ, zero, suc, ◌+◌, ◌-◌, ◌*◌, ◌<◌, ◌≤◌, ◌==◌, ◌⊎◌, Bool, true, false, List, [], ◌∷◌, ◌++◌, length, take, drop, replicate, get_or, Ok, refl, sym, ◌∙◌, ap, subst, inl, inr, arith, append-nil, append_assoc, drop-drop, length-append, length-drop, length-take, length-set}
use Rattle.std.proofs.Math.Seq.{drop-append-add, take-append-add}
use Rattle.std.proofs.lemmas.Bool.{cases_Bool, eqb-true}
use Rattle.std.proofs.lemmas.Bool.Decides.{nat_tests}
use Rattle.std.proofs.lemmas.List.{drop-append-le, drop-take, drop_at, get_or-set_other, length-replicate, nil_from_length, take-append-le, take-take}
use Rattle.std.proofs.lemmas.List.Sums.{AllPass-from_list_all}
use Rattle.lru.proofs.Splits.{Contains-nil}
use Rattle.mdcc_frag.specs.Datagrams.{count, piece_of}
use Rattle.mdcc_frag.specs.Joining.{JoinEntry, join}
use Rattle.mdcc_frag.specs.Partial.{PartialMessage, is_piece_held, nothing_of, with_piece, with_piece_bytes}
use Rattle.mdcc_frag.specs.Reading.{payload, piece_in, piece_length}
use Rattle.mdcc_frag.specs.declared.datagrams.FragHead.{FragHead}
use Rattle.mdcc_frag.specs.declared.joined.Joined.TheVariants.{Whole}
use Rattle.mdcc_frag.specs.declared.reading.Piece.{Piece}
use Rattle.mdcc_theorem_datagrams.specs.Laws.{table_after}
use Rattle.mdcc_theorem_server_runs.proofs.Joining.{Each, Keeps, LiesIn, join_keeps, length_overwritten, piece_lies}
use Rattle.mdcc_theorem_server_runs.specs.Brought.{CameInPieces, HasPiece}

-- ---- pieces of bytes that are written over

-- the piece that was written
written : (index : ℕ) (piece bytes : List ℕ) → 1383 * index + length piece ≤ length bytes → length piece ≡ piece_length (length bytes) index
    → piece_of index (with_piece_bytes (1383 * index) piece bytes) ≡ piece
written index piece bytes within long =
    let offset = 1383 * index in
    let front = take offset bytes in
    let rest = drop (offset + length piece) bytes in
    let size : length front ≡ offset = (let e = length-take offset bytes in omega (e, within, arith)) in
    let behind : drop offset (front ++ piece ++ rest) ≡ piece ++ rest =
    ap (drop offset) (append_assoc front piece rest) ∙ drop_at front (piece ++ rest) offset size in
    let few : length piece + (1383 - length piece) ≡ 1383 = omega (long, arith) in
    let none : take (1383 - length piece) rest ≡ [] =
    nil_from_length (take (1383 - length piece) rest)
    (let e = length-take (1383 - length piece) rest in let f = length-drop (offset + length piece) bytes in omega (e, f, long, within, arith)) in
    ap (take 1383) behind
    ∙ (ap (λ (n : ℕ). take n (piece ++ rest)) (sym few)
    ∙ (take-append-add piece rest (1383 - length piece) ∙ (ap (λ (xs : List ℕ). piece ++ xs) none ∙ append-nil piece)))

-- a piece before it
kept_before : (offset more : ℕ) (bytes rest : List ℕ) → 1383 ≤ more → offset + more ≤ length bytes
    → take 1383 (drop offset (take (offset + more) bytes ++ rest)) ≡ take 1383 (drop offset bytes)
kept_before offset more bytes rest long within =
    let front = take (offset + more) bytes in
    let size : length front ≡ offset + more = (let e = length-take (offset + more) bytes in omega (e, within, arith)) in
    let left : offset ≤ length front = omega (size, arith) in
    let enough : 1383 ≤ length (drop offset front) = (let e = length-drop offset front in omega (e, size, long, arith)) in
    ap (take 1383) (drop-append-le offset front rest left)
    ∙ (take-append-le 1383 (drop offset front) rest enough
    ∙ (ap (take 1383) (drop-take offset more bytes) ∙ take-take 1383 more (drop offset bytes) long))

-- and one behind it
kept_behind : (offset more : ℕ) (piece bytes : List ℕ) → offset + length piece ≤ length bytes
    → drop (offset + length piece + more) (with_piece_bytes offset piece bytes) ≡ drop (offset + length piece + more) bytes
kept_behind offset more piece bytes within =
    let front = take offset bytes ++ piece in
    let rest = drop (offset + length piece) bytes in
    let size : length front ≡ offset + length piece =
    (let e = length-append (take offset bytes) piece in let f = length-take offset bytes in omega (e, f, within, arith)) in
    ap (λ (n : ℕ). drop (n + more) (front ++ rest)) (sym size)
    ∙ (drop-append-add front rest more ∙ drop-drop more (offset + length piece) bytes)

others_kept : (index other : ℕ) (piece bytes : List ℕ) → 1383 * index + length piece ≤ length bytes → length piece ≤ 1383 → (other < index) ⊎ (index < other)
    → piece_of other (with_piece_bytes (1383 * index) piece bytes) ≡ piece_of other bytes
others_kept index other piece bytes within few (inl before) =
    let offset = 1383 * index in
    let more = 1383 * index - 1383 * other in
    let sum : 1383 * other + more ≡ offset = omega (before, arith) in
    let rest = drop (offset + length piece) bytes in
    ap (λ (xs : List ℕ). take 1383 (drop (1383 * other) xs)) (append_assoc (take offset bytes) piece rest)
    ∙ (ap (λ (n : ℕ). take 1383 (drop (1383 * other) (take n bytes ++ (piece ++ rest)))) (sym sum)
    ∙ kept_before (1383 * other) more bytes (piece ++ rest) (omega (before, arith)) (omega (sum, within, arith)))
others_kept index other piece bytes within few (inr behind) =
    let offset = 1383 * index in
    let more = 1383 * other - (offset + length piece) in
    let sum : offset + length piece + more ≡ 1383 * other = omega (behind, few, arith) in
    ap (λ (n : ℕ). take 1383 (drop n (with_piece_bytes offset piece bytes))) (sym sum)
    ∙ (ap (take 1383) (kept_behind offset more piece bytes within) ∙ ap (λ (n : ℕ). take 1383 (drop n bytes)) sum)

-- ---- pieces of datagrams

pieces_of : (head head' : FragHead) (total total' index index' : ℕ) → head ≡ head' → total ≡ total' → index ≡ index'
    → (let piece : Piece = record { head = head; total = total; index = index } in piece) ≡ record { head = head'; total = total'; index = index' }
pieces_of head head' total total' index index' a b c = cc

piece_is : (piece : Piece) (head : FragHead) (total index : ℕ) → piece.head ≡ head → piece.total ≡ total → piece.index ≡ index
    → piece ≡ record { head = head; total = total; index = index }
piece_is piece head total index a b c = pieces_of piece.head head piece.total total piece.index index a b c

has_later : {datagrams : List (List ℕ)} {head : FragHead} {bytes : List ℕ} {index : ℕ} (last : List ℕ)
    → HasPiece datagrams head bytes index → HasPiece (datagrams ++ last ∷ []) head bytes index
has_later last has = record {
  before = has.before;
  datagram = has.datagram;
  after = has.after ++ last ∷ [];
  are = ap (λ (xs : List (List ℕ)). xs ++ last ∷ []) has.are ∙ append_assoc has.before (has.datagram ∷ has.after) (last ∷ []);
  read = has.read;
  has = has.has;
}

-- of other bytes of the same length, with the same piece
has_of : {datagrams : List (List ℕ)} {head : FragHead} {bytes : List ℕ} {index : ℕ} (others : List ℕ) → length bytes ≡ length others
    → piece_of index bytes ≡ piece_of index others → HasPiece datagrams head bytes index → HasPiece datagrams head others index
has_of {head = head} {index = index} others long same has = record {
  before = has.before;
  datagram = has.datagram;
  after = has.after;
  are = has.are;
  read = has.read ∙ ap (λ (n : ℕ). Ok (record { head = head; total = n; index = index })) long;
  has = has.has ∙ same;
}

-- ---- entries

-- each piece that an entry holds came under its head
pub record Held (datagrams : List (List ℕ)) (entry : JoinEntry) : Type 0 where
  pub long : length (entry.1).held ≡ count (length (entry.1).bytes)
  pub pieces : (index : ℕ) → is_piece_held index entry.1 ≡ true → HasPiece datagrams entry.0 (entry.1).bytes index

held_later : (datagrams : List (List ℕ)) (last : List ℕ) (entry : JoinEntry) → Held datagrams entry → Held (datagrams ++ last ∷ []) entry
held_later datagrams last entry held = record { long = held.long; pieces = λ index is. has_later last (held.pieces index is) }

sides : (a b : ℕ) → (a == b) ≡ false → (a < b) ⊎ (b < a)
sides a b apart = grind (arith, nat_tests, apart)

module _ (datagrams : List (List ℕ)) (last : List ℕ) (piece : Piece) (read : piece_in last ≡ Ok piece) (head : FragHead) (there : PartialMessage)
    (of_head : piece.head ≡ head) (of_total : length there.bytes ≡ piece.total) (held : Held datagrams (head, there)) where
  abbrev now : List ℕ
  now = with_piece_bytes (1383 * piece.index) (payload last) there.bytes

  lies : LiesIn piece (length (payload last))
  lies = piece_lies last piece read

  within : 1383 * piece.index + length (payload last) ≤ length there.bytes
  within = let w = lies.within in omega (w, of_total, arith)

  few : length (payload last) ≤ 1383
  few = let l = lies.long in omega (l, arith)

  same : length now ≡ length there.bytes
  same = length_overwritten (1383 * piece.index) (payload last) there.bytes within

  newest : HasPiece (datagrams ++ last ∷ []) head now piece.index
  newest = record {
    before = datagrams;
    datagram = last;
    after = [];
    are = refl;
    read = read ∙ ap (λ (p : Piece). Ok p) (piece_is piece head (length now) piece.index of_head (sym of_total ∙ sym same) refl);
    has = sym (written piece.index (payload last) there.bytes within (lies.long ∙ ap (λ (n : ℕ). piece_length n piece.index) (sym of_total)));
  }

  older : (index : ℕ) → (index == piece.index) ≡ false → is_piece_held index (with_piece piece.index (payload last) there) ≡ true
      → HasPiece (datagrams ++ last ∷ []) head now index
  older index apart is =
      let was : is_piece_held index there ≡ true = sym (get_or-set_other there.held piece.index index true false (grind (arith, nat_tests, apart))) ∙ is in
      has_of now (sym same) (sym (others_kept piece.index index (payload last) there.bytes within few (sides index piece.index apart)))
      (has_later last (held.pieces index was))

  pub piece_held : Held (datagrams ++ last ∷ []) (head, with_piece piece.index (payload last) there)
  piece_held = record {
    long = length-set there.held piece.index true ∙ (held.long ∙ ap count (sym same));
    pieces = λ index is. elim (cases_Bool (index == piece.index)) [
      | inl e ↦ subst (HasPiece (datagrams ++ last ∷ []) head now) (sym (eqb-true index piece.index e)) newest
      | inr e ↦ older index e is
    ];
  }

none_held : (n i : ℕ) → get_or (replicate n false) i false ≡ true → true ≡ false
none_held zero i is = sym is
none_held (suc n) zero is = sym is
none_held (suc n) (suc i) is = none_held n i is

nothing_held : (datagrams : List (List ℕ)) (head : FragHead) (total : ℕ) → Held datagrams (head, nothing_of total)
nothing_held datagrams head total = record {
  long = length-replicate (count total) false ∙ ap count (sym (length-replicate total 0));
  pieces = λ index is. absurd (let no = none_held (count total) index is in cc);
}

-- ---- tables

module _ (datagrams : List (List ℕ)) (last : List ℕ) (entries : List JoinEntry) (each : Each (Held datagrams) entries) where
  abbrev after : JoinEntry → Type 0
  after = Held (datagrams ++ last ∷ [])

  joins : Keeps after after (join last entries)
  joins =
      join_keeps last (Held datagrams) after after (held_later datagrams last)
      (λ piece read. let e = piece_held datagrams last piece read piece.head (nothing_of piece.total) refl (length-replicate piece.total 0) (nothing_held datagrams piece.head piece.total) in (e, e))
      (λ piece read entry held head long. let e = piece_held datagrams last piece read entry.0 entry.1 head long held in (e, e))
      entries each

-- after all of them
table_held : (first more : List (List ℕ)) (entries : List JoinEntry) → Each (Held first) entries → Each (Held (first ++ more)) (table_after more entries)
table_held first [] entries each = subst (λ (ds : List (List ℕ)). Each (Held ds) entries) (sym (append-nil first)) each
table_held first (next ∷ more) entries each =
    subst (λ (ds : List (List ℕ)). Each (Held ds) (table_after more (join next entries).entries)) (append_assoc first (next ∷ []) more)
    (table_held (first ++ next ∷ []) more (join next entries).entries (joins first next entries each).entries)

pub whole_came : (before : List (List ℕ)) (last bytes : List ℕ) → (join last (table_after before [])).answer ≡ Whole bytes → CameInPieces (before ++ last ∷ []) bytes
whole_came before last bytes whole =
    let each : Each (Held before) (table_after before []) = table_held [] before [] (λ entry c. absurd (Contains-nil entry c)) in
    let comes = (joins before last (table_after before []) each).whole bytes whole in
    let entry = comes.entry in
    let all = AllPass-from_list_all (λ (came : Bool). came) (entry.1).held comes.all in
    let long = (comes.keeps).long in
    subst (CameInPieces (before ++ last ∷ [])) comes.are
    (record {
      head = entry.0;
      pieces = λ index within. (comes.keeps).pieces index (all index false (omega (long, within, arith)));
    })
