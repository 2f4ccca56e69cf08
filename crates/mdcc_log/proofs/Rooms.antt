-- A log that has no room for one more payload.
use Rattle.std.proofs.Common.{◌≡◌, ◌⊎◌, inl, inr, ℕ, ◌+◌, ◌-◌, ◌^◌, ◌<◌, ◌≤◌, ◌==◌, Bool, cond, false, List, [], ◌∷◌, ◌++◌, length, sym, ◌∙◌, ap, subst, arith, length-append}
use Rattle.std.proofs.lemmas.Bool.Decides.{nat_tests}
use Rattle.std.specs.List.{flat_map}
use Rattle.mdcc_log_file.specs.Log.{frame_bytes, log_bytes, log_limit, log_mark}
use Rattle.mdcc_log_file.specs.Area.{Head, generation_of, payloads_of, records_bytes, records_of, head_bytes, front_of}
use Rattle.mdcc_log_file.specs.Area.Head.{Version1, Version2}
use Rattle.mdcc_log.specs.Checkpoint.{head_size}
use Rattle.mdcc_log.specs.Crash.{IsHead}
use Rattle.mdcc_log.specs.Frames.{OpenAreas}
use Rattle.mdcc_log.specs.Room.{FullByLength, IsFull, IsRoomy, IsRoomyLog, RoomyGrows}
use Rattle.mdcc_log.proofs.Opened.{frame_sizes, sizes_by}

framed_length : (ps : List (List ℕ)) → length (log_bytes ps) ≡ length (records_bytes ps) + length ps + 9
framed_length ps =
    omega (arith, frame_sizes ps, length-append (log_mark ++ flat_map frame_bytes ps) (0 ∷ []), length-append log_mark (flat_map frame_bytes ps))

-- how many bytes an area has: of version 1 nine more than its frames, else 26 more than its records and the gates of its frames
record IsSized (g size body tail count : ℕ) : Type 0 where
  pub few : tail ≤ count
  pub size_is : (size ≡ body + count + 9) ⊎ ((0 < g) × (size ≡ body + tail + 26))

sized_by : (area : ℕ) (head : Head) (tail : List (List ℕ)) → IsHead area head
    → IsSized (generation_of head) (length (head_bytes head ++ flat_map frame_bytes tail) + 1) (length (records_bytes (records_of head ++ tail))) (length tail) (length (records_of head ++ tail))
sized_by area Version1 tail ok =
    let at = sizes_by area Version1 tail ok in
    record { few = at.tail_few; size_is = inl (omega (arith, at.whole)) }
sized_by area (Version2 g rs) tail ok =
    let at = sizes_by area (Version2 g rs) tail ok in
    let copy : head_size g ≡ 25 = ap (λ (b : Bool). cond b 8 25) (some_generation g ok.0) in
    record { few = at.tail_few; size_is = inr (ok.0, omega (arith, copy, at.whole)) }
  where
    some_generation : (n : ℕ) → 0 < n → (n == 0) ≡ false
    some_generation n some = grind (arith, nat_tests)

module _ (g size body tail count every more : ℕ) (few : tail ≤ count) (roomy : IsRoomy g tail count) (often : 17 ≤ every) where
  size_full : (size ≡ body + count + 9) ⊎ ((0 < g) × (size ≡ body + tail + 26)) → log_limit < size + (more + 5) → log_limit < body + count + 9 + (more + 5)
  size_full (inl is) past = omega (arith, is, past)
  size_full (inr is) past = elim roomy.records [
    | inl zero_is ↦ absurd (omega (arith, zero_is, is.0))
    | inr some ↦ omega (arith, is.1, past, some)
  ]

  copy_full : every ≤ tail + 1 → (g ≡ 2 ^ 64 - 1) ⊎ (log_limit < body + (more + 4) + 26) → log_limit < body + count + 9 + (more + 5)
  copy_full due (inl last) = omega (arith, roomy.generations, last)
  copy_full due (inr past) = omega (arith, few, often, due, past)

full_to : (frames : OpenAreas) (more : ℕ) → IsSized frames.generation frames.size frames.body frames.tail frames.count → IsRoomy frames.generation frames.tail frames.count → 17 ≤ frames.every
    → IsFull frames more → log_limit < frames.body + frames.count + 9 + (more + 5)
full_to frames more sized roomy often (inl past) = past
full_to frames more sized roomy often (inr (inl past)) = size_full frames.generation frames.size frames.body frames.tail frames.count frames.every more sized.few roomy often sized.size_is past
full_to frames more sized roomy often (inr (inr copy)) = copy_full frames.generation frames.size frames.body frames.tail frames.count frames.every more sized.few roomy often copy.0 copy.1

pub full_by_length : FullByLength
full_by_length frames log bytes may_leave more used =
    let counted : frames.body + frames.count + 9 ≡ length (log_bytes (payloads_of log)) = omega (arith, framed_length (payloads_of log), used.body, used.count) in
    let by = sized_by frames.area log.head log.tail used.valid.head in
    let size_is : length (front_of log) + 1 ≡ frames.size = omega (arith, used.size, ap (λ (l : List ℕ). length l) used.file, length-append (front_of log) (0 ∷ [])) in
    let one = subst (λ (n : ℕ). IsSized n (length (front_of log) + 1) (length (records_bytes (payloads_of log))) (length log.tail) (length (payloads_of log))) (sym used.generation) by in
    let two = subst (λ (n : ℕ). IsSized frames.generation n (length (records_bytes (payloads_of log))) (length log.tail) (length (payloads_of log))) size_is one in
    let three = subst (λ (n : ℕ). IsSized frames.generation frames.size n (length log.tail) (length (payloads_of log))) (sym used.body) two in
    let four = subst (λ (n : ℕ). IsSized frames.generation frames.size frames.body n (length (payloads_of log))) (sym used.tail) three in
    let sized = subst (λ (n : ℕ). IsSized frames.generation frames.size frames.body frames.tail n) (sym used.count) four in
    let room = λ (roomy : IsRoomyLog log). subst (λ (n : ℕ). IsRoomy frames.generation frames.tail n) (sym used.count) (subst (λ (n : ℕ). IsRoomy frames.generation n (length (payloads_of log))) (sym used.tail)
    (subst (λ (n : ℕ). IsRoomy n (length log.tail) (length (payloads_of log))) (sym used.generation) roomy)) in (
      λ past. inl (subst (λ (n : ℕ). log_limit < n + (more + 5)) (sym counted) past),
      λ roomy often full. subst (λ (n : ℕ). log_limit < n + (more + 5)) counted (full_to frames more sized (room roomy) often full),
    )

pub roomy_grows : RoomyGrows
roomy_grows more old new some roomy often grown = elim grown.tail [
  | inl kept ↦ record {
    generations = omega (arith, roomy.generations, grown.count, kept.0);
    frames = omega (arith, roomy.frames, grown.count, kept.1);
    records = elim roomy.records [ inl zero_is ↦ inl (kept.0 ∙ zero_is) | inr long ↦ inr (omega (arith, long, grown.count, kept.1)) ];
  }
  | inr copied ↦ record {
    generations = omega (arith, some, roomy.generations, grown.count, copied.1.0);
    frames = omega (arith, copied.1.1);
    records = inr (omega (arith, roomy.frames, often, copied.0, copied.1.1, grown.count));
  }
]
