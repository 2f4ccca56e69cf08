-- What a message is when one more piece came.
use Rattle.std.proofs.Common.{◌≡◌, ◌≤◌, ◌<◌, ℕ, ◌+◌, ◌-◌, ◌*◌, nat_eq, Bool, true, false, List, [], ◌∷◌, ◌++◌, length, set, replicate, refl, sym, ◌∙◌, ap, arith, length-append}
use Rattle.std.proofs.lemmas.Bool.Decides.{nat_tests}
use Rattle.std.proofs.lemmas.List.{length-replicate, length-set}
use Rattle.mdcc_frag.specs.declared.partial.Arrival.{Arrival}
use Rattle.mdcc_frag.specs.declared.partial.Partial.TheInside.{Inside}
use Rattle.mdcc_frag.specs.Datagrams.{message_limit, count}
use Rattle.mdcc_frag.specs.Reading.{piece_length}
use Rattle.mdcc_frag.specs.Partial.{PartialMessage, with_piece_bytes, with_piece, is_piece_held, is_whole}
use Rattle.mdcc_frag.specs.Arrivals.{ArePieces, pieces_placed, are_laid, missing, bytes_missing, message_of_pieces}
use Rattle.mdcc_frag.proofs.Arrived.{laid_more, placed_more, length_placed, one_less, all_came, none_came, fewer_bytes, all_bytes, no_bytes}

pub length_in : (p : Inside) → ArePieces p → length (message_of_pieces p).bytes ≡ p.total
length_in p are = length_placed p.total p.arrivals.items p.pieces.items (replicate p.total 0) are.laid (length-replicate p.total 0)

-- a message of which no piece came
pub none_are : (p : Inside) → p.total ≤ message_limit → p.pieces.items ≡ [] → p.arrivals.items ≡ [] →
    p.held.items ≡ replicate (count p.total) false → ArePieces p
none_are p short pieces arrivals held =
    let flags : length p.held.items ≡ count p.total = ap length held ∙ length-replicate {A = Bool} (count p.total) false in
    let none : missing p.held.items ≡ count p.total = ap missing held ∙ none_came (count p.total) in
    let left : bytes_missing p.total p.held.items ≡ p.total = ap (bytes_missing p.total) held ∙ all_bytes p.total (count p.total) (omega arith) in
    let no_pieces : length p.pieces.items ≡ 0 = ap length pieces in
    let no_arrivals : length p.arrivals.items ≡ 0 = ap length arrivals in
    record {
      short = short;
      flags = flags;
      came = omega (arith, flags, none, no_arrivals);
      laid = rw pieces (rw arrivals refl);
      bytes = omega (arith, left, no_pieces);
    }

-- a piece that did not come has a place, and behind it are one less of these, and fewer of their bytes
pub record IsMissing (p : Inside) (index : ℕ) : Type 0 where
  pub within : index < length p.held.items
  pub fewer : missing (set p.held.items index true) + 1 ≡ missing p.held.items
  pub bytes : bytes_missing p.total (set p.held.items index true) + piece_length p.total index ≡ bytes_missing p.total p.held.items

pub is_missing : (p : Inside) (m : PartialMessage) (index : ℕ) → ArePieces p → m ≡ message_of_pieces p → index < count (length m.bytes) →
    is_piece_held index m ≡ false → IsMissing p index
is_missing p m index are same inside absent =
    let total : length m.bytes ≡ p.total = ap (λ (n : PartialMessage). length n.bytes) same ∙ length_in p are in
    let below : index < length p.held.items = rw are.flags (rw total at inside) in
    let came = sym (ap (is_piece_held index) same) ∙ absent in
    record { within = below; fewer = one_less p.held.items index below came; bytes = fewer_bytes p.total index p.held.items below came }

-- it lies in the message
pub size_within : (total index size : ℕ) → index < count total → size ≡ piece_length total index → 1383 * index + size ≤ total
size_within total index size inside is = omega (arith, inside, is)

-- there is room in the message for its bytes
pub room_for : (p : Inside) (m : PartialMessage) (index : ℕ) (piece : List ℕ) → ArePieces p → m ≡ message_of_pieces p → index < count (length m.bytes) →
    is_piece_held index m ≡ false → length piece ≡ piece_length (length m.bytes) index → length p.pieces.items + length piece ≤ p.total
room_for p m index piece are same inside absent size =
    let there = is_missing p m index are same inside absent in
    let total : length m.bytes ≡ p.total = ap (λ (n : PartialMessage). length n.bytes) same ∙ length_in p are in
    let exact : length piece ≡ piece_length p.total index = size ∙ ap (λ (n : ℕ). piece_length n index) total in
    omega (arith, exact, there.bytes, are.bytes)

-- the bytes with it
pub bytes_with : (p : Inside) (m : PartialMessage) (arrival : Arrival) (piece : List ℕ) → ArePieces p → m ≡ message_of_pieces p →
    arrival.size ≡ length piece →
    pieces_placed (p.arrivals.items ++ arrival ∷ []) (p.pieces.items ++ piece) (replicate p.total 0) ≡ with_piece_bytes (1383 * arrival.index) piece m.bytes
bytes_with p m arrival piece are same size =
    placed_more p.total p.arrivals.items arrival p.pieces.items piece (replicate p.total 0) are.laid size
    ∙ sym (ap (λ (n : PartialMessage). with_piece_bytes (1383 * arrival.index) piece n.bytes) same)

pub laid_with : (p : Inside) (m : PartialMessage) (arrival : Arrival) (piece : List ℕ) → ArePieces p → m ≡ message_of_pieces p →
    arrival.size ≡ length piece → 1383 * arrival.index + length piece ≤ length m.bytes →
    are_laid p.total (p.arrivals.items ++ arrival ∷ []) (length (p.pieces.items ++ piece)) ≡ true
laid_with p m arrival piece are same size within =
    let total : length m.bytes ≡ p.total = ap (λ (n : PartialMessage). length n.bytes) same ∙ length_in p are in
    let more = laid_more p.total p.arrivals.items arrival (length p.pieces.items) are.laid (omega (arith, size, total, within)) in
    let all : length (p.pieces.items ++ piece) ≡ length p.pieces.items + arrival.size =
    length-append p.pieces.items piece ∙ ap (λ n. length p.pieces.items + n) (sym size) in
    ap (are_laid p.total (p.arrivals.items ++ arrival ∷ [])) all ∙ more

-- all came where as many came as there are
pub whole_by_count : (p : Inside) (m : PartialMessage) → ArePieces p → m ≡ message_of_pieces p →
    nat_eq (length p.arrivals.items) (length p.held.items) ≡ is_whole m
whole_by_count p m are same =
    let came = are.came in
    let none : nat_eq (length p.arrivals.items) (length p.held.items) ≡ nat_eq (missing p.held.items) 0 = grind (arith, nat_tests, came) in
    none ∙ sym (all_came p.held.items) ∙ sym (ap is_whole same)

-- ---- one more piece in its place

pub record IsWith (p q : Inside) (m : PartialMessage) (arrival : Arrival) (piece : List ℕ) : Type 0 where
  pub total : q.total ≡ p.total
  pub arrivals : q.arrivals.items ≡ p.arrivals.items ++ arrival ∷ []
  pub pieces : q.pieces.items ≡ p.pieces.items ++ piece
  pub held : q.held.items ≡ set p.held.items arrival.index true
  pub size : arrival.size ≡ length piece
  pub exact : length piece ≡ piece_length (length m.bytes) arrival.index
  pub inside : arrival.index < count (length m.bytes)
  pub absent : is_piece_held arrival.index m ≡ false

pub pieces_with : (p q : Inside) (m : PartialMessage) (arrival : Arrival) (piece : List ℕ) → ArePieces p → m ≡ message_of_pieces p →
    IsWith p q m arrival piece → ArePieces q
pieces_with p q m arrival piece are same new =
    let there = is_missing p m arrival.index are same new.inside new.absent in
    let fewer : missing q.held.items + 1 ≡ missing p.held.items = ap (λ (held : List Bool). missing held + 1) new.held ∙ there.fewer in
    let flags : length q.held.items ≡ length p.held.items = ap length new.held ∙ length-set p.held.items arrival.index true in
    let more : length q.arrivals.items ≡ length p.arrivals.items + 1 = ap length new.arrivals ∙ length-append p.arrivals.items (arrival ∷ []) in
    let longer : length q.pieces.items ≡ length p.pieces.items + length piece = ap length new.pieces ∙ length-append p.pieces.items piece in
    let total : length m.bytes ≡ p.total = ap (λ (n : PartialMessage). length n.bytes) same ∙ length_in p are in
    let exact : length piece ≡ piece_length p.total arrival.index = new.exact ∙ ap (λ (n : ℕ). piece_length n arrival.index) total in
    let less : bytes_missing q.total q.held.items ≡ bytes_missing p.total (set p.held.items arrival.index true) = rw new.total (rw new.held refl) in
    let within = size_within (length m.bytes) arrival.index (length piece) new.inside new.exact in
    record {
      short = omega (arith, are.short, new.total);
      flags = flags ∙ are.flags ∙ ap count (sym new.total);
      came = omega (arith, fewer, more, flags, are.came);
      laid = rw new.total (rw new.arrivals (rw new.pieces (laid_with p m arrival piece are same new.size within)));
      bytes = omega (arith, less, exact, longer, there.bytes, are.bytes, new.total);
    }

pub message_with : (p q : Inside) (m : PartialMessage) (arrival : Arrival) (piece : List ℕ) → ArePieces p → m ≡ message_of_pieces p →
    IsWith p q m arrival piece → message_of_pieces q ≡ with_piece arrival.index piece m
message_with p q m arrival piece are same new =
    let pack : List ℕ → List Bool → PartialMessage = λ bytes held. record { bytes = bytes; held = held } in
    let bytes : pieces_placed q.arrivals.items q.pieces.items (replicate q.total 0) ≡ with_piece_bytes (1383 * arrival.index) piece m.bytes =
    rw new.total (rw new.arrivals (rw new.pieces (bytes_with p m arrival piece are same new.size))) in
    let held : q.held.items ≡ set m.held arrival.index true =
    new.held ∙ ap (λ (n : PartialMessage). set n.held arrival.index true) (sym same) in
    ap (λ (b : List ℕ). pack b q.held.items) bytes ∙ ap (pack (with_piece_bytes (1383 * arrival.index) piece m.bytes)) held

-- all bytes are there where all pieces came
pub all_there : (p : Inside) (m : PartialMessage) → ArePieces p → m ≡ message_of_pieces p → is_whole m ≡ true → length p.pieces.items ≡ p.total
all_there p m are same whole =
    let none : bytes_missing p.total p.held.items ≡ 0 = no_bytes p.total p.held.items (sym (ap is_whole same) ∙ whole) in
    omega (arith, none, are.bytes)
