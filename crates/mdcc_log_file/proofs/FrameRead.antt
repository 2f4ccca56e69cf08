-- What is read of the frames from an offset on.
use Rattle.std.proofs.Common.{◌≡◌, ℕ, zero, suc, ◌+◌, ◌-◌, ◌*◌, ◌<◌, ◌≤◌, true, false, List, [], ◌∷◌, ◌++◌, length, take, drop, Err, Result, sym, ◌∙◌, ap, refl, arith, append_assoc, length-append}
use Rattle.std.proofs.Math.Seq.{drop-append_seam}
use Rattle.std.proofs.lemmas.List.{append-nil, drop-drop, take-append-drop}
use Rattle.std.proofs.lemmas.Grind.{flat_map-append}
use Rattle.std.specs.List.{flat_map}
use Rattle.mdcc_log_file.specs.Log.{frame_bytes, is_open, is_whole_frame, frames_from, behind}
use Rattle.mdcc_log_file.specs.Crash.{AreShort}
use Rattle.mdcc_log_file.specs.Frames.{AreFrames}
use Rattle.mdcc_log_file.proofs.LogRead.{frames_are_read, frames_are_long}

-- what stands at the end of what was read
pub rest_stands : (start end : ℕ) (front rest bytes : List ℕ) → drop start bytes ≡ front ++ rest → end ≡ start + length front → rest ≡ drop end bytes
rest_stands start end front rest bytes is ends =
    sym (ap (λ (n : ℕ). drop n bytes) ends ∙ sym (drop-drop (length front) start bytes) ∙ ap (λ (l : List ℕ). drop (length front) l) is ∙ drop-append_seam front rest)

pub frames_more : (tail qs : List (List ℕ)) (p rest next : List ℕ) (start : ℕ) (bytes : List ℕ) → qs ≡ tail ++ p ∷ [] → drop start bytes ≡ flat_map frame_bytes tail ++ rest → rest ≡ frame_bytes p ++ next → drop start bytes ≡ flat_map frame_bytes qs ++ next
frames_more tail qs p rest next start bytes more front split =
    front ∙ ap (λ (l : List ℕ). flat_map frame_bytes tail ++ l) split ∙ sym (append_assoc (flat_map frame_bytes tail) (frame_bytes p) next)
    ∙ ap (λ (l : List ℕ). l ++ next) (ap (λ (l : List ℕ). flat_map frame_bytes tail ++ l) (sym (append-nil (frame_bytes p))) ∙ sym (flat_map-append frame_bytes tail (p ∷ [])))
    ∙ ap (λ (l : List (List ℕ)). flat_map frame_bytes l ++ next) (sym more)

pub frames_size_more : (tail : List (List ℕ)) (p : List ℕ) → length (flat_map frame_bytes (tail ++ p ∷ [])) ≡ length (flat_map frame_bytes tail) + (5 + length p)
frames_size_more tail p =
    omega (arith, ap (λ (l : List ℕ). length l) (flat_map-append frame_bytes tail (p ∷ [])), length-append (flat_map frame_bytes tail) (frame_bytes p ++ []), length-append (frame_bytes p) [])

broken_frame : (most offset : ℕ) (e : List ℕ) → 0 < most → is_open e ≡ true → is_whole_frame e ≡ false → frames_from most offset e ≡ Err offset
broken_frame zero offset e some opened broken = absurd (omega arith)
broken_frame (suc most) offset e some opened broken = rw (opened, broken) refl

-- an open gate where no frame stands
pub frame_break : (most start gate n : ℕ) (tail : List (List ℕ)) (rest bytes : List ℕ) → drop start bytes ≡ flat_map frame_bytes tail ++ rest → AreShort tail → 0 < length rest → gate ≡ start + length (flat_map frame_bytes tail) → is_open rest ≡ true → is_whole_frame rest ≡ false → gate ≡ n
    → length (drop start bytes) ≤ most → frames_from most start (drop start bytes) ≡ Err n
frame_break most start gate n tail rest bytes front short more ends opened broken same enough =
    let left = most - length tail in
    let at : start + length (flat_map frame_bytes tail) ≡ n = omega arith in
    let long : 5 * length tail + length rest ≤ most = omega (arith, frames_are_long tail, length-append (flat_map frame_bytes tail) rest, ap (λ (l : List ℕ). length l) front, enough) in
    ap (λ (l : List ℕ). frames_from most start l) front
    ∙ frames_are_read tail rest most left start short more (omega arith)
    ∙ ap (behind tail) (broken_frame left (start + length (flat_map frame_bytes tail)) rest (omega arith) opened broken)
    ∙ ap (λ (k : ℕ). let refused : Result (List (List ℕ)) ℕ = Err k in refused) at

-- all of them were read
pub frames_read : (start : ℕ) (before all tail : List (List ℕ)) (count gate : ℕ) (rest bytes : List ℕ) → all ≡ before ++ tail → count ≡ length tail → drop start bytes ≡ flat_map frame_bytes tail ++ rest → gate ≡ start + length (flat_map frame_bytes tail) → gate + length rest ≡ length bytes → 0 < length rest → is_open rest ≡ false → AreShort tail
    → AreFrames start before all count gate bytes
frames_read start before all tail count gate rest bytes is counted front ends size more shut short =
    let here : rest ≡ drop gate bytes = rest_stands start gate (flat_map frame_bytes tail) rest bytes front ends in
    record {
      tail = tail;
      added = is;
      counted = counted;
      front = sym (take-append-drop start bytes) ∙ ap (λ (l : List ℕ). take start bytes ++ l) (front ∙ ap (λ (l : List ℕ). flat_map frame_bytes tail ++ l) here) ∙ sym (append_assoc (take start bytes) (flat_map frame_bytes tail) (drop gate bytes));
      ends = ends;
      within = omega (arith, size, more);
      shut = sym (ap is_open here) ∙ shut;
      short = short;
    }
