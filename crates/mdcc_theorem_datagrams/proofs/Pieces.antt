-- The pieces of a message, one after the other.
use Rattle.std.proofs.Common.{◌≡◌, ℕ, zero, suc, ◌+◌, ◌-◌, ◌*◌, ◌/◌, ◌<◌, ◌≤◌, Bool, true, false, List, [], ◌∷◌, ◌++◌, length, take, drop, replicate, if◌then◌else◌, refl, sym, ◌∙◌, ap, arith, append_assoc, drop-drop, length-drop}
use Rattle.std.proofs.lemmas.List.{replicate-append-replicate, length-take-le, take-append-drop, length-replicate, length-append}
use Rattle.std.proofs.Math.Seq.{drop-append_seam, drop-append-add, take-append-add}
use Rattle.std.specs.Prelude.{slice_set}
use Rattle.std.specs.List.{list_all}
use Rattle.mdcc_frag.specs.Datagrams.{count, piece_of}
use Rattle.mdcc_frag.specs.Partial.{with_piece_bytes}
use Rattle.mdcc_theorem_datagrams.specs.Laws.{partly_bytes}

-- ---- how many there are

none_of_none : (n : ℕ) → 0 ≡ (n + 1382) / 1383 → n ≡ 0
none_of_none n h = omega arith

one_fewer : (n k : ℕ) → suc k ≡ (n + 1382) / 1383 → k ≡ (n - 1383 + 1382) / 1383
one_fewer n k h = omega arith

is_empty : (bytes : List ℕ) → length bytes ≡ 0 → bytes ≡ []
is_empty [] h = refl
is_empty (b ∷ bytes) h = cc

pub next_count : (k : ℕ) (message : List ℕ) → suc k ≡ count (length message) → k ≡ count (length (drop 1383 message))
next_count k message h = rw (length-drop 1383 message) (one_fewer (length message) k h)

-- ---- one piece and the others

front_length : (came : Bool) (message : List ℕ) → length (if came then take 1383 message else replicate (length (take 1383 message)) 0) ≡ length (take 1383 message)
front_length true message = refl
front_length false message = length-replicate (length (take 1383 message)) 0

shifted : (front rest piece : List ℕ) (offset n : ℕ) → offset ≡ length front + n →
    with_piece_bytes offset piece (front ++ rest) ≡ front ++ with_piece_bytes n piece rest
shifted front rest piece offset n e =
    let behind : drop (offset + length piece) (front ++ rest) ≡ drop (n + length piece) rest =
    let same : offset + length piece ≡ length front + (n + length piece) = omega arith in
    ap (λ k. drop k (front ++ rest)) same ∙ drop-append-add front rest (n + length piece) in
    let before : take offset (front ++ rest) ≡ front ++ take n rest = ap (λ k. take k (front ++ rest)) e ∙ take-append-add front rest n in
    let ends = drop (n + length piece) rest in
    ap (λ l. l ++ piece ++ drop (offset + length piece) (front ++ rest)) before
    ∙ ap (λ l. (front ++ take n rest) ++ piece ++ l) behind
    ∙ ap (λ l. l ++ ends) (append_assoc front (take n rest) piece)
    ∙ append_assoc front (take n rest ++ piece) ends

replaced : (front rest piece : List ℕ) → length piece ≡ length front → with_piece_bytes 0 piece (front ++ rest) ≡ piece ++ rest
replaced front rest piece e =
    let same : 0 + length piece ≡ length front = omega arith in
    ap (λ l. piece ++ l) (ap (λ k. drop k (front ++ rest)) same ∙ drop-append_seam front rest)

long_front : (k : ℕ) (message : List ℕ) → k < count (length (drop 1383 message)) → length (take 1383 message) ≡ 1383
long_front k message h =
    let long : 1383 ≤ length message =
    let size = length-drop 1383 message in
    let some : k < (length message - 1383 + 1382) / 1383 = rw (← size) h in omega arith in
    length-take-le 1383 message long

-- ---- the laws

pub taken_bytes : (index : ℕ) (held : List Bool) (message : List ℕ) → length held ≡ count (length message) → index < length held →
    with_piece_bytes (1383 * index) (piece_of index message) (partly_bytes held message) ≡ partly_bytes (slice_set held index true) message
taken_bytes index [] message size h = absurd (omega arith)
taken_bytes zero (came ∷ held) message size h =
    replaced (if came then take 1383 message else replicate (length (take 1383 message)) 0) (partly_bytes held (drop 1383 message)) (take 1383 message)
    (sym (front_length came message))
taken_bytes (suc index) (came ∷ held) message size h =
    let front = if came then take 1383 message else replicate (length (take 1383 message)) 0 in
    let next : length held ≡ count (length (drop 1383 message)) = next_count (length held) message size in
    let within : index < length held = omega arith in
    let long : length front ≡ 1383 = front_length came message ∙ long_front index message (rw (← next) within) in
    let offset : 1383 * suc index ≡ length front + 1383 * index = omega arith in
    let after : 1383 * suc index ≡ 1383 + 1383 * index = omega arith in
    let piece : piece_of (suc index) message ≡ piece_of index (drop 1383 message) =
    ap (λ k. take 1383 (drop k message)) after ∙ ap (take 1383) (sym (drop-drop (1383 * index) 1383 message)) in
    ap (λ p. with_piece_bytes (1383 * suc index) p (front ++ partly_bytes held (drop 1383 message))) piece
    ∙ shifted front (partly_bytes held (drop 1383 message)) (piece_of index (drop 1383 message)) (1383 * suc index) (1383 * index) offset
    ∙ ap (λ l. front ++ l) (taken_bytes index held (drop 1383 message) next within)

pub nothing_bytes : (k : ℕ) (message : List ℕ) → k ≡ count (length message) → replicate (length message) 0 ≡ partly_bytes (replicate k false) message
nothing_bytes zero message h = ap (λ n. replicate n 0) (none_of_none (length message) h)
nothing_bytes (suc k) message h =
    let sizes : length message ≡ length (take 1383 message) + length (drop 1383 message) =
    ap length (sym (take-append-drop 1383 message)) ∙ length-append (take 1383 message) (drop 1383 message) in
    ap (λ n. replicate n 0) sizes
    ∙ sym (replicate-append-replicate (length (take 1383 message)) (length (drop 1383 message)) 0)
    ∙ ap (λ l. replicate (length (take 1383 message)) 0 ++ l) (nothing_bytes k (drop 1383 message) (next_count k message h))

pub whole_bytes : (held : List Bool) (message : List ℕ) → length held ≡ count (length message) → list_all (λ came. came) held ≡ true →
    partly_bytes held message ≡ message
whole_bytes [] message size all = sym (is_empty message (none_of_none (length message) size))
whole_bytes (true ∷ held) message size all =
    ap (λ l. take 1383 message ++ l) (whole_bytes held (drop 1383 message) (next_count (length held) message size) all)
    ∙ take-append-drop 1383 message
whole_bytes (false ∷ held) message size all = cc
