-- What is read of the frames of a log.
use Rattle.std.proofs.Common.{◌≡◌, ◌≢◌, ℕ, zero, suc, ◌+◌, ◌-◌, ◌*◌, ◌<◌, ◌≤◌, true, false, List, [], ◌∷◌, ◌++◌, length, take, drop, Ok, Err, Result, sym, ◌∙◌, ap, refl, arith, append_assoc, length-append}
use Rattle.std.proofs.Math.Seq.{take-append_seam, drop-append_seam}
use Rattle.std.proofs.lemmas.Bool.Decides.{nat_tests}
use Rattle.std.proofs.lemmas.Nat.{from_le_bytes-to_le_bytes_4}
use Rattle.std.specs.List.{flat_map}
use Rattle.mdcc_log_file.specs.Log.{is_open, is_whole_frame, stated_length, payload_of, next_of, frame_bytes, payload_limit, behind, frames_from}
use Rattle.mdcc_log_file.specs.Crash.{AreShort}

length_is_read : (p e : List ℕ) → length p ≤ payload_limit → stated_length (frame_bytes p ++ e) ≡ length p
length_is_read p e short = from_le_bytes-to_le_bytes_4 (length p) (omega arith)

whole_is : (rest : List ℕ) (n : ℕ) → stated_length rest ≡ n → n ≤ payload_limit → 5 + n < length rest → is_whole_frame rest ≡ true
whole_is rest n is short within = let long : 5 ≤ length rest = omega arith in rw is (grind (arith, nat_tests))

frame_step : (most offset n : ℕ) (rest p e : List ℕ) → is_open rest ≡ true → is_whole_frame rest ≡ true → stated_length rest ≡ n → payload_of rest ≡ p → next_of rest ≡ e
    → frames_from (suc most) offset rest ≡ behind (p ∷ []) (frames_from most (offset + (5 + n)) e)
frame_step most offset n rest p e opened whole len payload next = rw (opened, whole, payload, next, len) refl

one_frame : (most offset : ℕ) (p e : List ℕ) → length p ≤ payload_limit → 0 < length e
    → frames_from (suc most) offset (frame_bytes p ++ e) ≡ behind (p ∷ []) (frames_from most (offset + (5 + length p)) e)
one_frame most offset p e short more =
    let len = length_is_read p e short in
    frame_step most offset (length p) (frame_bytes p ++ e) p e
    refl
    (whole_is (frame_bytes p ++ e) (length p) len short (omega (arith, length-append p e)))
    len
    (ap (λ (n : ℕ). take n (p ++ e)) len ∙ take-append_seam p e)
    (ap (λ (n : ℕ). drop n (p ++ e)) len ∙ drop-append_seam p e)

behind_more : (p : List ℕ) (ps : List (List ℕ)) (r : Result (List (List ℕ)) ℕ) → behind (p ∷ []) (behind ps r) ≡ behind (p ∷ ps) r
behind_more p ps (Ok qs) = refl
behind_more p ps (Err n) = refl

behind_none : (r : Result (List (List ℕ)) ℕ) → r ≡ behind [] r
behind_none (Ok qs) = refl
behind_none (Err n) = refl

frames_step : (p : List ℕ) (ps : List (List ℕ)) (e : List ℕ) (most left offset end : ℕ) → length p ≤ payload_limit → 0 < length e → end ≡ offset + (5 + length p) + length (flat_map frame_bytes ps)
    → frames_from most (offset + (5 + length p)) (flat_map frame_bytes ps ++ e) ≡ behind ps (frames_from left (offset + (5 + length p) + length (flat_map frame_bytes ps)) e)
    → frames_from (suc most) offset (frame_bytes p ++ flat_map frame_bytes ps ++ e) ≡ behind (p ∷ ps) (frames_from left end e)
frames_step p ps e most left offset end short more is rest =
    ap (λ (l : List ℕ). frames_from (suc most) offset l) (append_assoc (frame_bytes p) (flat_map frame_bytes ps) e)
    ∙ one_frame most offset p (flat_map frame_bytes ps ++ e) short (omega (arith, length-append (flat_map frame_bytes ps) e))
    ∙ ap (behind (p ∷ [])) rest
    ∙ behind_more p ps _
    ∙ ap (λ (n : ℕ). behind (p ∷ ps) (frames_from left n e)) (sym is)

pub frames_are_read : (ps : List (List ℕ)) (e : List ℕ) (most left offset : ℕ) → AreShort ps → 0 < length e → most ≡ length ps + left
    → frames_from most offset (flat_map frame_bytes ps ++ e) ≡ behind ps (frames_from left (offset + length (flat_map frame_bytes ps)) e)
frames_are_read [] e most left offset short more is =
    let same : most ≡ left = omega arith in
    let there : offset ≡ offset + 0 = omega arith in
    ap (λ (n : ℕ). frames_from n offset e) same ∙ ap (λ (n : ℕ). frames_from left n e) there ∙ behind_none _
frames_are_read (p ∷ ps) e zero left offset short more is = absurd (omega arith)
frames_are_read (p ∷ ps) e (suc most) left offset short more is =
    frames_step p ps e most left offset (offset + length (frame_bytes p ++ flat_map frame_bytes ps)) short.0 more
    (omega (arith, length-append p (flat_map frame_bytes ps)))
    (frames_are_read ps e most left (offset + (5 + length p)) short.1 more (omega arith))

-- there are no more payloads than bytes
pub frames_are_long : (ps : List (List ℕ)) → 5 * length ps ≤ length (flat_map frame_bytes ps)
frames_are_long [] = omega arith
frames_are_long (p ∷ ps) = omega (arith, frames_are_long ps, length-append p (flat_map frame_bytes ps))

pub not_open : (gate : ℕ) (rest : List ℕ) → gate ≢ 1 → is_open (gate ∷ rest) ≡ false
not_open gate rest shut = grind (arith, nat_tests)

pub none_of : (ps : List (List ℕ)) → length ps ≡ 0 → ps ≡ []
none_of [] is = refl
none_of (p ∷ ps) is = absurd (omega arith)

pub short_more : (ps : List (List ℕ)) (p : List ℕ) → AreShort ps → length p ≤ payload_limit → AreShort (ps ++ p ∷ [])
short_more [] p short fits = (fits, tt)
short_more (q ∷ ps) p short fits = (short.0, short_more ps p short.1 fits)
