-- What an append and a checkpoint make of an open log.
use Rattle.std.proofs.Common.{◌≡◌, ◌≢◌, ◌⊎◌, inl, inr, ℕ, ◌+◌, ◌-◌, ◌^◌, ◌<◌, ◌≤◌, ◌==◌, nat_eq, Bool, cond, true, false, List, [], ◌∷◌, ◌++◌, length, sym, ◌∙◌, ap, subst, arith, append_assoc, length-append}
use Rattle.std.specs.Cmp.Lexicographic.{pointwise}
use Rattle.std.specs.List.{flat_map}
use Rattle.std.proofs.lemmas.Bool.{cases_eq, cases_lt}
use Rattle.std.proofs.lemmas.Bool.Decides.{nat_tests}
use Rattle.std.proofs.lemmas.List.{append-nil}
use Rattle.mdcc_disks.specs.Disks.{Only}
use Rattle.mdcc_log_file.specs.Log.{frame_body, frame_bytes}
use Rattle.mdcc_log_file.specs.declared.area.Spare.TheVariants as spares
use Rattle.mdcc_log.specs.declared.checkpoint.Whole.{Whole}
use Rattle.mdcc_log_file.specs.Append.{IsAtEnd, MayAppend}
use Rattle.mdcc_log_file.specs.Area.{Head, AreaLog, area_mark, generation_of, payloads_of, records_bytes, copy_body, head_bytes, front_of, area_bytes, area_gate, generation_in, is_second, spare_of, with_gate}
use Rattle.mdcc_log_file.specs.Area.Head.{Version1, Version2}
use Rattle.mdcc_log.specs.Checkpoint.{StandsAs, MayBegin, MayCopy, copy_of, left_area}
use Rattle.mdcc_log_file.specs.Copying.{MayShut}
use Rattle.mdcc_log.specs.Crash.{IsHead, IsLog, IsCurrent, IsBetween, IsDead, IsOlder, IsIdle}
use Rattle.mdcc_log.specs.Frames.{OpenAreas, IsInUse, IsSpare, appended, packed, place_of, other_of}
use Rattle.mdcc_log.proofs.AreaRead.{longer_test, shorter_test, short_test, long_test, copy_numbered, copy_long}
use Rattle.mdcc_log.proofs.Choice.{appended_front, appended_payloads}
use Rattle.mdcc_log.proofs.Idles.{older_gate, gate_mark}
use Rattle.mdcc_log.proofs.Keeps.{more_valid}
use Rattle.mdcc_log.proofs.Packs.{payloads_short, bodies_both}

-- ---- an append

pub at_end : {frames : OpenAreas} {log : AreaLog} {bytes : List ℕ} {may : List ℕ → Type 0} → IsInUse frames log bytes may → IsAtEnd (front_of log) frames.size bytes may
at_end use' = record { file = use'.file; counted = use'.size; durable = use'.durable }

pub is_current : {frames : OpenAreas} {log : AreaLog} {bytes : List ℕ} {may : List ℕ → Type 0} → IsInUse frames log bytes may → IsCurrent frames.area log bytes
is_current use' = record { valid = use'.valid; file = inr ([], use'.file) }

pub append_between : (area : ℕ) (log : AreaLog) (p c : List ℕ) → IsLog area log → length p ≤ 2097152 → MayAppend (front_of log) p c → IsBetween area log p c
append_between area log p c valid fits (inl shut) = inl (record { valid = valid; file = inr (shut.0, shut.1) })
append_between area log p c valid fits (inr frame) = inr (record { valid = valid; fits = fits; gate = frame.0; file = frame.1 })

more_body : (log : AreaLog) (p : List ℕ) → length (records_bytes (payloads_of (appended log p))) ≡ length (records_bytes (payloads_of log)) + (length p + 4)
more_body log p =
    let same : records_bytes (payloads_of (appended log p)) ≡ records_bytes (payloads_of log) ++ (frame_body p ++ []) = ap records_bytes (appended_payloads log p) ∙ bodies_both (payloads_of log) (p ∷ []) in
    omega (arith, ap (λ (l : List ℕ). length l) same, length-append (records_bytes (payloads_of log)) (frame_body p ++ []), length-append p [])

pub in_use_more : (frames new : OpenAreas) (log : AreaLog) (p bytes bytes_new : List ℕ) (may may_new : List ℕ → Type 0) → IsInUse frames log bytes may → length p ≤ 2097152
    → IsAtEnd (front_of log ++ frame_bytes p) new.size bytes_new may_new → new.area ≡ frames.area → new.generation ≡ frames.generation → new.count ≡ frames.count + 1 → new.start ≡ frames.start → new.tail ≡ frames.tail + 1 → new.body ≡ frames.body + (length p + 4)
    → IsInUse new (appended log p) bytes_new may_new
in_use_more frames new log p bytes bytes_new may may_new use' fits rest area generation count start tail body = record {
  valid = subst (λ (n : ℕ). IsLog n (appended log p)) (sym area) (more_valid frames.area log p use'.valid fits);
  file = rest.file ∙ append_assoc (front_of log) (frame_bytes p) (0 ∷ []) ∙ sym (appended_front log p (0 ∷ []));
  generation = generation ∙ use'.generation;
  count = omega (arith, count, use'.count, ap (λ (l : List (List ℕ)). length l) (appended_payloads log p), length-append (payloads_of log) (p ∷ []));
  start = start ∙ use'.start;
  tail = omega (arith, tail, use'.tail, length-append log.tail (p ∷ []));
  body = omega (arith, body, use'.body, more_body log p);
  size = rest.counted;
  durable = rest.durable;
}

-- ---- a checkpoint

pub stands_as : (whole : Whole) {frames : OpenAreas} {log : AreaLog} {bytes : List ℕ} {may : List ℕ → Type 0} → IsInUse frames log bytes may → whole.head ≡ cond (frames.generation == 0) 8 25 → whole.start ≡ frames.start → whole.end ≡ frames.size - 1 → whole.count ≡ frames.count → whole.tail ≡ frames.tail → whole.body ≡ frames.body → StandsAs whole log bytes
stands_as whole {frames} {log} {bytes} use' head start end count tail body = record {
  area = frames.area;
  valid = use'.valid;
  file = use'.file;
  head_is = head ∙ ap (λ (n : ℕ). cond (n == 0) 8 25) use'.generation;
  start_is = start ∙ use'.start;
  end_is = last frames.size (length (front_of log)) end (use'.size ∙ ap (λ (l : List ℕ). length l) use'.file ∙ length-append (front_of log) (0 ∷ []));
  count_is = count ∙ use'.count;
  tail_is = tail ∙ use'.tail;
  body_is = body ∙ use'.body;
}
  where
    last : (n m : ℕ) → whole.end ≡ n - 1 → n ≡ m + 1 → whole.end ≡ m
    last n m is same = omega arith

pub packed_file : (log : AreaLog) → copy_of 1 (generation_of log.head + 1) (payloads_of log) ≡ area_bytes (packed log)
packed_file log = ap (λ (l : List ℕ). area_mark ++ 1 ∷ (l ++ 0 ∷ [])) (sym (append-nil (copy_body (generation_of log.head + 1) (payloads_of log))))

pub packed_in_use : (frames new : OpenAreas) (log : AreaLog) (end : ℕ) (bytes bytes_new : List ℕ) (may may_new : List ℕ → Type 0) → IsInUse frames log bytes may → frames.generation + 1 < 2 ^ 64 → frames.count < 2 ^ 64 → bytes_new ≡ copy_of 1 (frames.generation + 1) (payloads_of log) → Only bytes_new may_new → end ≡ 25 + length (records_bytes (payloads_of log))
    → new.generation ≡ frames.generation + 1 → new.count ≡ frames.count → new.start ≡ end → new.tail ≡ 0 → new.body ≡ end - 25 → new.size ≡ end + 1 → IsInUse new (packed log) bytes_new may_new
packed_in_use frames new log end bytes bytes_new may may_new use' fits counted made only at generation count start tail body size =
    let file : bytes_new ≡ area_bytes (packed log) = made ∙ ap (λ (n : ℕ). copy_of 1 (n + 1) (payloads_of log)) use'.generation ∙ packed_file log in
    record {
      valid = record { head = (omega arith, (omega (arith, use'.generation, fits), (omega (arith, use'.count, counted), payloads_short frames.area log use'.valid))); short = tt };
      file = file;
      generation = generation ∙ ap (λ (n : ℕ). n + 1) use'.generation;
      count = count ∙ use'.count ∙ sym (ap (λ (l : List (List ℕ)). length l) (append-nil (payloads_of log)));
      start = omega (arith, start, at);
      tail = tail;
      body = omega (arith, body, at, ap (λ (l : List (List ℕ)). length (records_bytes l)) (append-nil (payloads_of log)));
      size = omega (arith, size, at, ap (λ (l : List ℕ). length l) made, length-append (records_bytes (payloads_of log)) (0 ∷ []));
      durable = only;
    }

-- the area that was in use is older then
pub left_idle : (area g : ℕ) (log : AreaLog) (bytes : List ℕ) → IsLog area log → bytes ≡ area_bytes log → g ≡ generation_of log.head + 1 → IsDead bytes ⊎ IsOlder g bytes
left_idle area g log bytes valid file is = by_head log.head valid.head file is
  where
    by_head : (head : Head) → IsHead area head → bytes ≡ (head_bytes head ++ flat_map frame_bytes log.tail) ++ 0 ∷ [] → g ≡ generation_of head + 1 → IsDead bytes ⊎ IsOlder g bytes
    by_head Version1 ok stands next = inl (inr (inl (ap is_second stands)))
    by_head (Version2 h rs) ok stands next =
        let x = flat_map frame_bytes log.tail ++ 0 ∷ [] in
        let there : bytes ≡ area_mark ++ 1 ∷ (copy_body h rs ++ x) = stands ∙ ap (λ (l : List ℕ). area_mark ++ 1 ∷ l) (append_assoc (copy_body h rs) (flat_map frame_bytes log.tail) (0 ∷ [])) in
        let numbers : generation_in bytes ≡ h = ap generation_in there ∙ copy_numbered 1 h rs x ok.1.0 in
        inr (record {
          marked = ap is_second there;
          long = omega (arith, ap (λ (l : List ℕ). length l) there, copy_long 1 h rs x);
          some = omega (arith, numbers, ok.0);
          older = omega (arith, numbers, next);
        })

pub left_spare : (area g size : ℕ) (log : AreaLog) (bytes : List ℕ) → IsLog area log → bytes ≡ area_bytes log → g ≡ generation_of log.head → size ≡ length bytes → left_area g size ≡ spare_of bytes
left_spare area g size log bytes valid file generation sized = elim (cases_lt 9 (length bytes)) [
  | inl long ↦
      ap (λ (n : ℕ). left_area g n) sized
      ∙ ap (λ (b : Bool). cond b spares.Short (spares.Long false (cond (g == 0) false true))) (long_test bytes long)
      ∙ by_head log.head log.tail valid.head file generation long
      ∙ sym (ap (λ (b : Bool). cond b (spares.Long (area_gate bytes == 0) (is_second bytes)) spares.Short) (longer_test bytes long))
  | inr short ↦
      ap (λ (n : ℕ). left_area g n) sized
      ∙ ap (λ (b : Bool). cond b spares.Short (spares.Long false (cond (g == 0) false true))) (shorter_test bytes short)
      ∙ sym (ap (λ (b : Bool). cond b (spares.Long (area_gate bytes == 0) (is_second bytes)) spares.Short) (short_test bytes short))
]
  where
    some_generation : (n : ℕ) → 0 < n → (n == 0) ≡ false
    some_generation n some = grind (arith, nat_tests)

    by_head : (head : Head) (tail : List (List ℕ)) → IsHead area head → bytes ≡ (head_bytes head ++ flat_map frame_bytes tail) ++ 0 ∷ [] → g ≡ generation_of head → 9 < length bytes → spares.Long false (cond (g == 0) false true) ≡ spares.Long (area_gate bytes == 0) (is_second bytes)
    by_head Version1 [] ok stands is long = absurd (omega (arith, long, ap (λ (l : List ℕ). length l) stands))
    by_head Version1 (p ∷ ps) ok stands is long =
        ap (λ (n : ℕ). spares.Long false (cond (n == 0) false true)) is ∙ sym (ap (λ (l : List ℕ). spares.Long (area_gate l == 0) (is_second l)) stands)
    by_head (Version2 h rs) tail ok stands is long =
        ap (λ (b : Bool). spares.Long false (cond b false true)) (some_generation g (omega (arith, is, ok.0))) ∙ sym (ap (λ (l : List ℕ). spares.Long (area_gate l == 0) (is_second l)) stands)

-- ---- what a crash of a checkpoint leaves is idle

dead_gate : (log : AreaLog) (gate : ℕ) (bytes : List ℕ) → 9 < length bytes → area_gate bytes ≢ 0 → IsDead bytes → IsIdle log (with_gate gate bytes)
dead_gate log gate bytes long opened (inl few) = absurd (omega (arith, long, few))
dead_gate log gate bytes long opened (inr (inl unmarked)) = inl (inr (inl (ap (λ (l : List ℕ). pointwise nat_eq l area_mark) (gate_mark gate bytes (omega arith)) ∙ unmarked)))
dead_gate log gate bytes long opened (inr (inr shut)) = absurd (opened shut)

shutting_idle : (log : AreaLog) (bytes c : List ℕ) → IsDead bytes ⊎ IsOlder (generation_of log.head) bytes → MayShut bytes c → IsIdle log c
shutting_idle log bytes c (inl dead) (inl same) = subst (IsIdle log) (sym same) (inl dead)
shutting_idle log bytes c (inr older) (inl same) = subst (IsIdle log) (sym same) (inr (inl older))
shutting_idle log bytes c idle (inr (inl short)) = inl (inl short.1)
shutting_idle log bytes c (inl dead) (inr (inr change)) = subst (IsIdle log) (sym change.1.1.1) (dead_gate log change.1.1.0 bytes change.0 change.1.0 dead)
shutting_idle log bytes c (inr older) (inr (inr change)) = subst (IsIdle log) (sym change.1.1.1) (inr (inl (older_gate (generation_of log.head) change.1.1.0 bytes older)))

pub beginning_idle : (log : AreaLog) (bytes c : List ℕ) → IsDead bytes ⊎ IsOlder (generation_of log.head) bytes → MayBegin bytes c → IsIdle log c
beginning_idle log bytes c idle (inl shutting) = shutting_idle log bytes c idle shutting
beginning_idle log bytes c idle (inr shut) = inl (inr (inr shut))

pub copying_idle : (area g : ℕ) (log : AreaLog) (bytes c : List ℕ) → IsLog area log → g ≡ generation_of log.head + 1 → g < 2 ^ 64 → length (payloads_of log) < 2 ^ 64 → IsDead bytes ⊎ IsOlder (generation_of log.head) bytes → MayCopy bytes g (payloads_of log) c → IsIdle log c
copying_idle area g log bytes c valid is fits counted idle (inl shutting) = shutting_idle log bytes c idle shutting
copying_idle area g log bytes c valid is fits counted idle (inr (inl shut)) = inl (inr (inr shut))
copying_idle area g log bytes c valid is fits counted idle (inr (inr copy)) = inr (inr (record {
  generation = omega (arith, is, fits);
  count = counted;
  short = payloads_short area log valid;
  gate = copy.0;
  file = copy.1 ∙ ap (λ (n : ℕ). copy_of copy.0 n (payloads_of log)) is;
}))

-- the places of both areas
pub apart_places : (centre area one two : ℕ) → area ≤ 1 → one ≡ place_of centre area → two ≡ place_of centre (other_of area) → one ≢ two
apart_places centre area one two range first second same = elim (cases_eq area 0) [
  | inl is ↦
      let other : other_of area ≡ 1 = ap other_of is in
      omega (arith, is, first, second ∙ ap (place_of centre) other, same)
  | inr isnt ↦
      let other : other_of area ≡ 0 = ap (λ (b : Bool). cond {A = ℕ} b 1 0) (not_zero area isnt) in
      omega (arith, isnt, first, second ∙ ap (place_of centre) other, same)
]
  where
    not_zero : (n : ℕ) → (n ≡ 0 → ⊥) → (n == 0) ≡ false
    not_zero n apart = grind (arith, nat_tests)

-- the other area is idle next to the one in use
pub spare_idle : {frames : OpenAreas} {log : AreaLog} {bytes other : List ℕ} {may may_other : List ℕ → Type 0} → IsInUse frames log bytes may → IsSpare frames other may_other → IsIdle log other
spare_idle {frames} {log} {bytes} {other} uses spare = of_both spare.idle
  where
    of_both : IsDead other ⊎ IsOlder frames.generation other → IsIdle log other
    of_both (inl dead) = inl dead
    of_both (inr older) = inr (inl (subst (λ (n : ℕ). IsOlder n other) uses.generation older))
