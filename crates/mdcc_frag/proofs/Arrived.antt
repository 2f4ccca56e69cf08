-- The pieces of a message that came, and one more of them.
use Rattle.std.proofs.Common.{◌≡◌, ◌≤◌, ◌<◌, ℕ, zero, suc, add-one, ◌+◌, ◌-◌, ◌*◌, min, Bool, true, false, ◌&&◌, nat_eq, List, [], ◌∷◌, ◌++◌, length, get_or, set, take, drop, replicate, refl, sym, ◌∙◌, ap, arith, append_assoc, length-append, length-drop, drop-cons}
use Rattle.std.specs.List.{list_all}
use Rattle.std.proofs.lemmas.Bool.{eqb-true, eq-eqb, leb-true, le-leb}
use Rattle.std.proofs.lemmas.Bool.Decides.{nat_tests}
use Rattle.std.proofs.lemmas.Grind.{common_steps}
use Rattle.std.proofs.Math.Seq.{take-append_seam, drop-append-add}
use Rattle.std.proofs.lemmas.List.{take-append-le, take-append-drop, drop-append-le, nil_from_length}
use Rattle.std.proofs.lemmas.List.Sums.{sum_by-cons, sum_by-set}
use Rattle.mdcc_frag.specs.declared.partial.Arrival.{Arrival}
use Rattle.mdcc_frag.specs.Partial.{with_piece_bytes}
use Rattle.mdcc_frag.specs.Arrivals.{pieces_placed, are_laid, are_contiguous, absent, missing, bytes_missing}

-- ---- tests joined by &&

both : (a b : Bool) → (a && b) ≡ true → (a ≡ true) × (b ≡ true)
both true b h = (refl, h)
both false b h = cc

joined : (a b : Bool) → a ≡ true → b ≡ true → (a && b) ≡ true
joined true b h k = k
joined false b h k = h

-- the first of the pieces lies in the message, and the others too
pub record IsLaid (total : ℕ) (first : Arrival) (others : List Arrival) (size : ℕ) : Type 0 where
  pub there : first.size ≤ size
  pub within : 1383 * first.index + first.size ≤ total
  pub behind : are_laid total others (size - first.size) ≡ true

pub laid_first : (total : ℕ) (first : Arrival) (others : List Arrival) (size : ℕ) → are_laid total (first ∷ others) size ≡ true → IsLaid total first others size
laid_first total first others size laid =
    let one = both _ _ laid in
    let two = both _ _ one.1 in
    record { there = leb-true _ _ one.0; within = leb-true _ _ two.0; behind = two.1 }

laid_with : (total : ℕ) (first : Arrival) (others : List Arrival) (size : ℕ) → IsLaid total first others size → are_laid total (first ∷ others) size ≡ true
laid_with total first others size laid =
    joined _ _ (le-leb _ _ laid.there) (joined _ _ (le-leb _ _ laid.within) laid.behind)

-- ---- one more piece

pub laid_more : (total : ℕ) (arrivals : List Arrival) (arrival : Arrival) (size : ℕ) → are_laid total arrivals size ≡ true →
    1383 * arrival.index + arrival.size ≤ total → are_laid total (arrivals ++ arrival ∷ []) (size + arrival.size) ≡ true
laid_more total [] arrival size laid within =
    let none : size ≡ 0 = eqb-true size 0 laid in
    laid_with total arrival [] (size + arrival.size) (record { there = omega arith; within = within; behind = eq-eqb _ _ (omega arith) })
laid_more total (first ∷ others) arrival size laid within =
    let part = laid_first total first others size laid in
    let more = laid_more total others arrival (size - first.size) part.behind within in
    let same : size - first.size + arrival.size ≡ size + arrival.size - first.size = omega (arith, part.there) in
    laid_with total first (others ++ arrival ∷ []) (size + arrival.size) (record {
      there = omega (arith, part.there);
      within = part.within;
      behind = ap (are_laid total (others ++ arrival ∷ [])) (sym same) ∙ more;
    })

pub placed_more : (total : ℕ) (arrivals : List Arrival) (arrival : Arrival) (pieces piece bytes : List ℕ) →
    are_laid total arrivals (length pieces) ≡ true → arrival.size ≡ length piece →
    pieces_placed (arrivals ++ arrival ∷ []) (pieces ++ piece) bytes ≡ with_piece_bytes (1383 * arrival.index) piece (pieces_placed arrivals pieces bytes)
placed_more total [] arrival pieces piece bytes laid size =
    let none : pieces ≡ [] = nil_from_length pieces (eqb-true (length pieces) 0 laid) in
    let whole : take arrival.size piece ≡ piece = grind (arith, common_steps, size) in
    rw none (ap (λ p. with_piece_bytes (1383 * arrival.index) p bytes) whole)
placed_more total (first ∷ others) arrival pieces piece bytes laid size =
    let part = laid_first total first others (length pieces) laid in
    let there = part.there in
    let front : take first.size (pieces ++ piece) ≡ take first.size pieces = take-append-le first.size pieces piece there in
    let behind : drop first.size (pieces ++ piece) ≡ drop first.size pieces ++ piece = drop-append-le first.size pieces piece there in
    let rest : are_laid total others (length (drop first.size pieces)) ≡ true =
    ap (are_laid total others) (length-drop first.size pieces) ∙ part.behind in
    ap (λ p. pieces_placed (others ++ arrival ∷ []) p (with_piece_bytes (1383 * first.index) (take first.size (pieces ++ piece)) bytes)) behind
    ∙ ap (λ p. pieces_placed (others ++ arrival ∷ []) (drop first.size pieces ++ piece) (with_piece_bytes (1383 * first.index) p bytes)) front
    ∙ placed_more total others arrival (drop first.size pieces) piece (with_piece_bytes (1383 * first.index) (take first.size pieces) bytes) rest size

-- ---- how long the message is

length_over : (offset : ℕ) (piece bytes : List ℕ) → offset + length piece ≤ length bytes → length (with_piece_bytes offset piece bytes) ≡ length bytes
length_over offset piece bytes within = grind (arith, common_steps, within)

pub length_placed : (total : ℕ) (arrivals : List Arrival) (pieces bytes : List ℕ) → are_laid total arrivals (length pieces) ≡ true →
    length bytes ≡ total → length (pieces_placed arrivals pieces bytes) ≡ total
length_placed total [] pieces bytes laid size = size
length_placed total (first ∷ others) pieces bytes laid size =
    let part = laid_first total first others (length pieces) laid in
    let there = part.there in
    let all : length (take first.size pieces) ≡ first.size = grind (arith, common_steps, there) in
    let rest : are_laid total others (length (drop first.size pieces)) ≡ true =
    ap (are_laid total others) (length-drop first.size pieces) ∙ part.behind in
    length_placed total others (drop first.size pieces) (with_piece_bytes (1383 * first.index) (take first.size pieces) bytes) rest
    (length_over (1383 * first.index) (take first.size pieces) bytes (omega (arith, part.within)) ∙ size)

-- ---- how many are missing

pub one_less : (held : List Bool) (index : ℕ) → index < length held → get_or held index false ≡ false →
    missing (set held index true) + 1 ≡ missing held
one_less held index within is =
    let changed = rw is at (sum_by-set (λ (came : Bool). absent came) held index true false within) in
    omega (arith, changed)

pub all_came : (held : List Bool) → list_all (λ came. came) held ≡ nat_eq (missing held) 0
all_came [] = refl
all_came (true ∷ held) = all_came held
all_came (false ∷ held) =
    let more : missing (false ∷ held) ≡ 1 + missing held = sum_by-cons (λ (came : Bool). absent came) false held in
    grind (arith, nat_tests, more)

pub none_came : (n : ℕ) → missing (replicate n false) ≡ n
none_came zero = refl
none_came (suc n) =
    let more : missing (false ∷ replicate n false) ≡ 1 + missing (replicate n false) = sum_by-cons (λ (came : Bool). absent came) false (replicate n false) in
    let rest = none_came n in
    omega (arith, more, rest)

-- ---- how many of their bytes

pub fewer_bytes : (size index : ℕ) (held : List Bool) → index < length held → get_or held index false ≡ false →
    bytes_missing size (set held index true) + min 1383 (size - 1383 * index) ≡ bytes_missing size held
fewer_bytes size index [] within is = absurd (omega arith)
fewer_bytes size zero (true ∷ held) within is = cc
fewer_bytes size zero (false ∷ held) within is = omega arith
fewer_bytes size (suc index) (came ∷ held) within is =
    let more = fewer_bytes (size - 1383) index held (omega arith) is in
    let same : size - 1383 - 1383 * index ≡ size - 1383 * suc index = omega arith in
    let piece : min 1383 (size - 1383 - 1383 * index) ≡ min 1383 (size - 1383 * suc index) = ap (min 1383) same in
    omega (arith, more, piece)

pub all_bytes : (size n : ℕ) → size ≤ 1383 * n → bytes_missing size (replicate n false) ≡ size
all_bytes size zero most = omega arith
all_bytes size (suc n) most =
    let behind = all_bytes (size - 1383) n (omega arith) in
    omega (arith, behind)

pub no_bytes : (size : ℕ) (held : List Bool) → list_all (λ came. came) held ≡ true → bytes_missing size held ≡ 0
no_bytes size [] all = refl
no_bytes size (true ∷ held) all = let rest = no_bytes (size - 1383) held all in omega (arith, rest)
no_bytes size (false ∷ held) all = cc

-- ---- the pieces from an index on

split_at : (arrivals : List Arrival) (index : ℕ) (arrival : Arrival) → index < length arrivals → arrival ≡ get_or arrivals index arrival →
    drop index arrivals ≡ arrival ∷ drop (index + 1) arrivals
split_at arrivals index arrival within is = rw add-one (drop-cons arrivals index arrival within ∙ ap (λ a. a ∷ drop (suc index) arrivals) (sym is))

pub left_at : (total : ℕ) (arrivals : List Arrival) (index : ℕ) (arrival : Arrival) (size : ℕ) → index < length arrivals →
    arrival ≡ get_or arrivals index arrival → are_laid total (drop index arrivals) size ≡ true →
    IsLaid total arrival (drop (index + 1) arrivals) size
left_at total arrivals index arrival size within is laid =
    laid_first total arrival (drop (index + 1) arrivals) size
    (ap (λ (left : List Arrival). are_laid total left size) (sym (split_at arrivals index arrival within is)) ∙ laid)

pub placed_at : (arrivals : List Arrival) (index : ℕ) (arrival : Arrival) (rest bytes : List ℕ) → index < length arrivals →
    arrival ≡ get_or arrivals index arrival →
    pieces_placed (drop index arrivals) rest bytes
    ≡ pieces_placed (drop (index + 1) arrivals) (drop arrival.size rest) (with_piece_bytes (1383 * arrival.index) (take arrival.size rest) bytes)
placed_at arrivals index arrival rest bytes within is =
    ap (λ (left : List Arrival). pieces_placed left rest bytes) (split_at arrivals index arrival within is)

-- ---- pieces in order

over_front : (front piece rest : List ℕ) (offset : ℕ) → offset ≡ length front →
    with_piece_bytes offset piece (front ++ rest) ≡ (front ++ piece) ++ drop (length piece) rest
over_front front piece rest offset is =
    rw is (rw (take-append_seam front rest) (rw (drop-append-add front rest (length piece)) refl))

pub placed_in_order : (total : ℕ) (arrivals : List Arrival) (pieces front rest : List ℕ) → are_contiguous (length front) arrivals ≡ true →
    are_laid total arrivals (length pieces) ≡ true → length rest ≡ length pieces → pieces_placed arrivals pieces (front ++ rest) ≡ front ++ pieces
placed_in_order total [] pieces front rest ordered laid as_many =
    let none : length pieces ≡ 0 = eqb-true (length pieces) 0 laid in
    let empty : pieces ≡ [] = nil_from_length pieces none in
    let nothing : rest ≡ [] = nil_from_length rest (as_many ∙ none) in
    ap (λ (r : List ℕ). front ++ r) (nothing ∙ sym empty)
placed_in_order total (first ∷ others) pieces front rest ordered laid as_many =
    let part = laid_first total first others (length pieces) laid in
    let there = part.there in
    let begins = both _ _ ordered in
    let offset : 1383 * first.index ≡ length front = eqb-true _ _ begins.0 in
    let piece = take first.size pieces in
    let all : length (take first.size pieces) ≡ first.size = grind (arith, common_steps, there) in
    let end : 1383 * first.index + first.size ≡ length (front ++ take first.size pieces) =
    omega (arith, offset, all, length-append front (take first.size pieces)) in
    let left : length (drop first.size rest) ≡ length (drop first.size pieces) =
    omega (arith, length-drop first.size rest, length-drop first.size pieces, as_many) in
    let laid_behind : are_laid total others (length (drop first.size pieces)) ≡ true =
    ap (are_laid total others) (length-drop first.size pieces) ∙ part.behind in
    let over : with_piece_bytes (1383 * first.index) (take first.size pieces) (front ++ rest) ≡ (front ++ take first.size pieces) ++ drop first.size rest =
    over_front front (take first.size pieces) rest (1383 * first.index) offset
    ∙ ap (λ (n : ℕ). (front ++ take first.size pieces) ++ drop n rest) all in
    ap (λ (b : List ℕ). pieces_placed others (drop first.size pieces) b) over
    ∙ placed_in_order total others (drop first.size pieces) (front ++ take first.size pieces) (drop first.size rest)
    (ap (λ (n : ℕ). are_contiguous n others) (sym end) ∙ begins.1) laid_behind left
    ∙ append_assoc front (take first.size pieces) (drop first.size pieces)
    ∙ ap (λ (b : List ℕ). front ++ b) (take-append-drop first.size pieces)
