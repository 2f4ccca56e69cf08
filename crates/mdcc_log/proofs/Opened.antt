-- The open log of what opening found.
use Rattle.std.proofs.Common.{◌≡◌, ◌⊎◌, inl, inr, ℕ, ◌+◌, ◌-◌, ◌<◌, ◌≤◌, ◌==◌, Bool, cond, false, IsTrue, List, [], ◌∷◌, ◌++◌, length, Ok, Result, sym, ◌∙◌, ap, refl, subst, arith, length-append}
use Rattle.std.proofs.lemmas.Bool.{cases_eq}
use Rattle.std.proofs.lemmas.Bool.Decides.{nat_tests}
use Rattle.std.specs.List.{flat_map}
use Rattle.mdcc_disks.specs.Disks.{Disk, Only}
use Rattle.mdcc_log_file.specs.Log.{frame_body, frame_bytes}
use Rattle.mdcc_log_file.specs.declared.area.Spare.{Spare}
use Rattle.mdcc_log_file.specs.Area.{Head, generation_of, records_of, payloads_of, records_bytes, head_bytes, front_of, area_bytes, read_area, read_areas, read_area_taken, taken, spare_of}
use Rattle.mdcc_log_file.specs.Area.Head.{Version1, Version2}
use Rattle.mdcc_log.specs.Checkpoint.{head_size}
use Rattle.mdcc_log.specs.Crash.{IsHead, IsLog, IsDead, IsOlder}
use Rattle.mdcc_log.specs.Frames.{OpenAreas, IsInUse, IsSpare, other_of, place_of}
use Rattle.mdcc_log.specs.Opening.{IsFound, IsOpened, IsTaken, pick, taken_bytes}
use Rattle.mdcc_log.specs.Repair.{with_closed_gate}
use Rattle.mdcc_log.proofs.Opens.{first_bytes, second_bytes, first_bytes_then, second_bytes_then}
use Rattle.mdcc_log.proofs.Packs.{sizes_both}

-- ---- how many bytes stand where

pub frame_sizes : (ps : List (List ℕ)) → length (flat_map frame_bytes ps) ≡ length (records_bytes ps) + length ps
frame_sizes [] = refl
frame_sizes (p ∷ ps) = omega (arith, frame_sizes ps, length-append (frame_body p) (flat_map frame_bytes ps), length-append (frame_body p) (flat_map frame_body ps))

count_fits : (ps : List (List ℕ)) → length ps ≤ length (records_bytes ps)
count_fits [] = omega arith
count_fits (p ∷ ps) = omega (arith, count_fits ps, length-append p (flat_map frame_body ps))

pub record Sizes (g start tail gate : ℕ) (all : List (List ℕ)) : Type 0 where
  pub whole : gate ≡ head_size g + length (records_bytes all) + tail
  pub head : head_size g ≤ start
  pub start_low : 8 ≤ start
  pub start_copy : 0 < g → 25 ≤ start
  pub order : start ≤ gate
  pub tail_few : tail ≤ length all
  pub count : length all ≤ length (records_bytes all)

pub sizes_by : (area : ℕ) (head : Head) (tail : List (List ℕ)) → IsHead area head → Sizes (generation_of head) (length (head_bytes head)) (length tail) (length (head_bytes head ++ flat_map frame_bytes tail)) (records_of head ++ tail)
sizes_by area Version1 tail ok = record {
  whole = omega (arith, frame_sizes tail);
  head = omega arith;
  start_low = omega arith;
  start_copy = λ some. absurd (omega (arith, some));
  order = omega arith;
  tail_few = omega arith;
  count = count_fits tail;
}
sizes_by area (Version2 g rs) tail ok =
    let copy : head_size g ≡ 25 = ap (λ (b : Bool). cond b 8 25) (some_generation g ok.0) in
    record {
      whole = omega (arith, copy, frame_sizes tail, sizes_both rs tail, length-append (records_bytes rs) (flat_map frame_bytes tail));
      head = omega (arith, copy);
      start_low = omega arith;
      start_copy = λ some. omega arith;
      order = omega (arith, length-append (records_bytes rs) (flat_map frame_bytes tail));
      tail_few = omega (arith, length-append rs tail);
      count = count_fits (rs ++ tail);
    }
  where
    some_generation : (n : ℕ) → 0 < n → (n == 0) ≡ false
    some_generation n some = grind (arith, nat_tests)

pub sizes : {first second : List ℕ} {area g : ℕ} {all : List (List ℕ)} {start tail gate : ℕ} {spare : Spare} → IsTaken first second area g all start tail gate spare → Sizes g start tail gate all
sizes {first} {second} {area} {g} {all} {start} {tail} {gate} is =
    let by = sizes_by area is.log.head is.log.tail is.valid.head in
    let one = subst (λ (n : ℕ). Sizes n (length (head_bytes is.log.head)) (length is.log.tail) (length (front_of is.log)) (payloads_of is.log)) (sym is.generation_is) by in
    let two = subst (λ (n : ℕ). Sizes g n (length is.log.tail) (length (front_of is.log)) (payloads_of is.log)) (sym is.starts) one in
    let three = subst (λ (n : ℕ). Sizes g start n (length (front_of is.log)) (payloads_of is.log)) (sym is.counted) two in
    let four = subst (λ (n : ℕ). Sizes g start tail n (payloads_of is.log)) (sym is.gate_is) three in
    subst (λ (l : List (List ℕ)). Sizes g start tail gate l) (sym is.payloads_are) four

pub head_fits : {g start tail gate : ℕ} {all : List (List ℕ)} (h : ℕ) → Sizes g start tail gate all → h ≡ head_size g → h ≤ gate
head_fits {g} {start} {tail} {gate} {all} h at is = by_parts (head_size g) (length (records_bytes all)) at.whole is
  where
    by_parts : (s n : ℕ) → gate ≡ s + n + tail → h ≡ s → h ≤ gate
    by_parts s n whole same = omega (arith, whole, same)

pub tail_fits : {g start tail gate : ℕ} {all : List (List ℕ)} (h : ℕ) → Sizes g start tail gate all → h ≡ head_size g → tail ≤ gate - h
tail_fits {g} {start} {tail} {gate} {all} h at is = by_parts (head_size g) (length (records_bytes all)) at.whole is
  where
    by_parts : (s n : ℕ) → gate ≡ s + n + tail → h ≡ s → tail ≤ gate - h
    by_parts s n whole same = omega (arith, whole, same)

pub count_below : {g start tail gate : ℕ} {all : List (List ℕ)} → Sizes g start tail gate all → length all ≤ gate
count_below {g} {start} {tail} {gate} {all} at = by_parts (head_size g) (length (records_bytes all)) at.whole at.count
  where
    by_parts : (s n : ℕ) → gate ≡ s + n + tail → length all ≤ n → length all ≤ gate
    by_parts s n whole few = omega (arith, whole, few)

-- ---- the open log

module _ {D : Type 0} (disk : D → ℕ → Disk) (may_leave : D → ℕ → List ℕ → Type 0) (moment : D → ℕ) (left_since : D → ℕ → ℕ → List ℕ → Type 0) (old new : D) (frames : OpenAreas) {one two area g : ℕ} {all : List (List ℕ)} {start tail gate : ℕ} {known : Spare}
    (found : IsFound disk may_leave moment left_since old new one two area g all start tail gate known)
    (one_is : one ≡ frames.centre) (two_is : two ≡ frames.centre + 16) (area_is : frames.area ≡ area) (generation_is : frames.generation ≡ g) (count_is : frames.count ≡ length all) (start_is : frames.start ≡ start) (tail_is : frames.tail ≡ tail)
    (body_is : frames.body ≡ gate - head_size g - tail) (size_is : frames.size ≡ gate + 1) (known_is : frames.spare ≡ known)
  where
    abbrev pub taking : IsTaken found.first found.second area g all start tail gate known
    taking = found.is

    in_use_at : (p : ℕ) → (disk new p).bytes ≡ area_bytes taking.log → Only (disk new p).bytes (may_leave new p) → IsInUse frames taking.log (disk new p).bytes (may_leave new p)
    in_use_at p file durable = record {
      valid = subst (λ (n : ℕ). IsLog n taking.log) (sym area_is) taking.valid;
      file = file;
      generation = generation_is ∙ taking.generation_is;
      count = count_is ∙ ap (λ (l : List (List ℕ)). length l) taking.payloads_are;
      start = start_is ∙ taking.starts;
      tail = tail_is ∙ taking.counted;
      body = body_size (length (records_bytes all)) (sizes taking).whole ∙ ap (λ (l : List (List ℕ)). length (records_bytes l)) taking.payloads_are;
      size = omega (arith, size_is, taking.gate_is, ap (λ (l : List ℕ). length l) file, length-append (front_of taking.log) (0 ∷ []));
      durable = durable;
    }
      where
        body_size : (n : ℕ) → gate ≡ head_size g + n + tail → frames.body ≡ n
        body_size n whole = omega (arith, body_is, whole)

    spare_at : (p : ℕ) (bytes : List ℕ) → (disk new p).bytes ≡ with_closed_gate bytes → bytes ≡ pick area found.second found.first → Only (disk new p).bytes (may_leave new p) → IsSpare frames (disk new p).bytes (may_leave new p)
    spare_at p bytes file same durable =
        let there : (disk new p).bytes ≡ with_closed_gate (pick area found.second found.first) = file ∙ ap with_closed_gate same in
        record {
          idle = subst (λ (l : List ℕ). IsDead l ⊎ IsOlder frames.generation l) (sym there) (subst (λ (n : ℕ). IsDead (with_closed_gate (pick area found.second found.first)) ⊎ IsOlder n (with_closed_gate (pick area found.second found.first))) (sym generation_is) taking.idle);
          spare = known_is ∙ taking.spare_is ∙ sym (ap spare_of there);
          durable = durable;
        }

    zero_place : place_of frames.centre 0 ≡ frames.centre
    zero_place = omega arith

    chosen : (n : ℕ) → area ≡ n → taken found.first found.second ≡ Ok n
    chosen n is = taking.choice ∙ ap (λ (m : ℕ). let ok : Result ℕ ℕ = Ok m in ok) is

    -- the first area is in use
    module _ (zero_is : area ≡ 0) where
      first_here : one ≡ place_of frames.centre frames.area
      first_here = one_is ∙ sym zero_place ∙ sym (ap (place_of frames.centre) (area_is ∙ zero_is))

      second_there : two ≡ place_of frames.centre (other_of frames.area)
      second_there = two_is ∙ sym (ap (λ (n : ℕ). place_of frames.centre (other_of n)) (area_is ∙ zero_is))

      first_read : read_area found.first ≡ Ok taking.log
      first_read = sym (ap (λ (n : ℕ). read_area (pick n found.first found.second)) zero_is) ∙ taking.read

      first_used : IsTrue (disk old one).told → IsInUse frames taking.log (disk new (place_of frames.centre frames.area)).bytes (may_leave new (place_of frames.centre frames.area))
      first_used told =
          let file : (disk new one).bytes ≡ area_bytes taking.log = found.first_bytes told ∙ sym (first_bytes found.first found.second (chosen 0 zero_is)) ∙ ap taken_bytes first_read in
          subst (λ (p : ℕ). IsInUse frames taking.log (disk new p).bytes (may_leave new p)) first_here (in_use_at one file (found.first_durable told))

      second_spare : IsTrue (disk old two).told → IsSpare frames (disk new (place_of frames.centre (other_of frames.area))).bytes (may_leave new (place_of frames.centre (other_of frames.area)))
      second_spare told =
          let other : (disk new two).bytes ≡ with_closed_gate found.second = found.second_bytes told ∙ sym (second_bytes_then found.first found.second (chosen 0 zero_is)) in
          subst (λ (p : ℕ). IsSpare frames (disk new p).bytes (may_leave new p)) second_there (spare_at two found.second other (sym (ap (λ (n : ℕ). pick n found.second found.first) zero_is)) (found.second_durable told))

    -- the second one is
    module _ (one_more : area ≡ 1) where
      second_here : two ≡ place_of frames.centre frames.area
      second_here = two_is ∙ sym (ap (place_of frames.centre) (area_is ∙ one_more))

      first_there : one ≡ place_of frames.centre (other_of frames.area)
      first_there = one_is ∙ sym zero_place ∙ sym (ap (λ (n : ℕ). place_of frames.centre (other_of n)) (area_is ∙ one_more))

      second_read : read_area found.second ≡ Ok taking.log
      second_read = sym (ap (λ (n : ℕ). read_area (pick n found.first found.second)) one_more) ∙ taking.read

      second_used : IsTrue (disk old two).told → IsInUse frames taking.log (disk new (place_of frames.centre frames.area)).bytes (may_leave new (place_of frames.centre frames.area))
      second_used told =
          let file : (disk new two).bytes ≡ area_bytes taking.log = found.second_bytes told ∙ sym (second_bytes found.first found.second (chosen 1 one_more)) ∙ ap taken_bytes second_read in
          subst (λ (p : ℕ). IsInUse frames taking.log (disk new p).bytes (may_leave new p)) second_here (in_use_at two file (found.second_durable told))

      first_spare : IsTrue (disk old one).told → IsSpare frames (disk new (place_of frames.centre (other_of frames.area))).bytes (may_leave new (place_of frames.centre (other_of frames.area)))
      first_spare told =
          let other : (disk new one).bytes ≡ with_closed_gate found.first = found.first_bytes told ∙ sym (first_bytes_then found.first found.second (chosen 1 one_more)) in
          subst (λ (p : ℕ). IsSpare frames (disk new p).bytes (may_leave new p)) first_there (spare_at one found.first other (sym (ap (λ (n : ℕ). pick n found.second found.first) one_more)) (found.first_durable told))

    -- the places tell their bytes as they did before
    module _ (one_told : (disk new one).told ≡ (disk old one).told) (two_told : (disk new two).told ≡ (disk old two).told) where
      told_first : IsTrue (disk new one).told → IsTrue (disk old one).told
      told_first told = subst IsTrue one_told told

      told_second : IsTrue (disk new two).told → IsTrue (disk old two).told
      told_second told = subst IsTrue two_told told

      pub used_told : IsTrue (disk new (place_of frames.centre frames.area)).told → IsTrue (disk old (place_of frames.centre frames.area)).told
      used_told = elim (cases_eq area 0) [
        | inl zero_is ↦ subst (λ (p : ℕ). IsTrue (disk new p).told → IsTrue (disk old p).told) (first_here zero_is) told_first
        | inr more ↦ let is : area ≡ 1 = omega (arith, more, taking.range) in subst (λ (p : ℕ). IsTrue (disk new p).told → IsTrue (disk old p).told) (second_here is) told_second
      ]

      pub spare_told : IsTrue (disk new (place_of frames.centre (other_of frames.area))).told → IsTrue (disk old (place_of frames.centre (other_of frames.area))).told
      spare_told = elim (cases_eq area 0) [
        | inl zero_is ↦ subst (λ (p : ℕ). IsTrue (disk new p).told → IsTrue (disk old p).told) (second_there zero_is) told_second
        | inr more ↦ let is : area ≡ 1 = omega (arith, more, taking.range) in subst (λ (p : ℕ). IsTrue (disk new p).told → IsTrue (disk old p).told) (first_there is) told_first
      ]

    pub found_used : IsTrue (disk old (place_of frames.centre frames.area)).told → IsInUse frames taking.log (disk new (place_of frames.centre frames.area)).bytes (may_leave new (place_of frames.centre frames.area))
    found_used told = elim (cases_eq area 0) [
      | inl zero_is ↦ first_used zero_is (subst (λ (p : ℕ). IsTrue (disk old p).told) (sym (first_here zero_is)) told)
      | inr more ↦ let is : area ≡ 1 = omega (arith, more, taking.range) in second_used is (subst (λ (p : ℕ). IsTrue (disk old p).told) (sym (second_here is)) told)
    ]

    pub found_spare : IsTrue (disk old (place_of frames.centre (other_of frames.area))).told → IsSpare frames (disk new (place_of frames.centre (other_of frames.area))).bytes (may_leave new (place_of frames.centre (other_of frames.area)))
    found_spare told = elim (cases_eq area 0) [
      | inl zero_is ↦ second_spare zero_is (subst (λ (p : ℕ). IsTrue (disk old p).told) (sym (second_there zero_is)) told)
      | inr more ↦ let is : area ≡ 1 = omega (arith, more, taking.range) in first_spare is (subst (λ (p : ℕ). IsTrue (disk old p).told) (sym (first_there is)) told)
    ]

    record Areas (told_one : IsTrue (disk old one).told) (told_two : IsTrue (disk old two).told) : Type 0 where
      pub read : read_areas found.first found.second ≡ Ok taking.log
      pub in_use : IsInUse frames taking.log (disk new (place_of frames.centre frames.area)).bytes (may_leave new (place_of frames.centre frames.area))
      pub idle : IsSpare frames (disk new (place_of frames.centre (other_of frames.area))).bytes (may_leave new (place_of frames.centre (other_of frames.area)))

    areas : (told_one : IsTrue (disk old one).told) (told_two : IsTrue (disk old two).told) → Areas told_one told_two
    areas told_one told_two = elim (cases_eq area 0) [
      | inl zero_is ↦ record { read = ap (λ (t : Result ℕ ℕ). read_area_taken t found.first found.second) (chosen 0 zero_is) ∙ first_read zero_is; in_use = first_used zero_is told_one; idle = second_spare zero_is told_two }
      | inr more ↦
          let is : area ≡ 1 = omega (arith, more, taking.range) in
          record { read = ap (λ (t : Result ℕ ℕ). read_area_taken t found.first found.second) (chosen 1 is) ∙ second_read is; in_use = second_used is told_two; idle = first_spare is told_one }
    ]

    pub found_opened : (told_one : IsTrue (disk old one).told) (told_two : IsTrue (disk old two).told) → IsOpened disk may_leave moment left_since new frames all (disk old one).bytes (disk old two).bytes
    found_opened told_one told_two = record {
      log = taking.log;
      read = ap (λ (l : List ℕ). read_areas l (disk old two).bytes) (sym (found.first_is told_one)) ∙ ap (λ (l : List ℕ). read_areas found.first l) (sym (found.second_is told_two)) ∙ (areas told_one told_two).read;
      payloads_are = taking.payloads_are;
      choice = ap (λ (l : List ℕ). taken l (disk old two).bytes) (sym (found.first_is told_one)) ∙ ap (λ (l : List ℕ). taken found.first l) (sym (found.second_is told_two)) ∙ taking.choice ∙ ap (λ (n : ℕ). let ok : Result ℕ ℕ = Ok n in ok) (sym area_is);
      in_use = (areas told_one told_two).in_use;
      spare = (areas told_one told_two).idle;
    }
