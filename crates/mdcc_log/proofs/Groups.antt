-- Several payloads are appended together.
use Rattle.std.proofs.Common.{◌≡◌, ◌↔◌, ◌⊎◌, inl, inr, ℕ, ◌+◌, ◌-◌, ◌^◌, ◌<◌, ◌≤◌, min, Bool, false, IsTrue, List, [], ◌∷◌, ◌++◌, length, Result, Ok, sym, ◌∙◌, ap, refl, subst, arith, append_assoc, length-append}
use Rattle.std.proofs.lemmas.Bool.{cases_eq, cases_lt, false≢true}
use Rattle.std.proofs.lemmas.Bool.Decides.{nat_tests}
use Rattle.std.proofs.lemmas.List.{append-nil}
use Rattle.std.proofs.lemmas.Grind.{flat_map-append}
use Rattle.std.specs.List.{flat_map}
use Rattle.mdcc_disks.specs.Disks.{Disk, KeepsOthers, LeavesOnly}
use Rattle.mdcc_log_file.specs.Log.{frame_body, frame_bytes, log_limit}
use Rattle.mdcc_log_file.specs.Crash.{AreShort}
use Rattle.mdcc_log_file.proofs.Moments.{both, started, weakened}
use Rattle.mdcc_log_file.specs.Append.{IsAtEnd, MayStandBehind, group_body}
use Rattle.mdcc_log_file.specs.Area.{AreaLog, generation_of, head_bytes, records_bytes, records_of, payloads_in, payloads_of, front_of, read_area}
use Rattle.mdcc_log.specs.AtRest.{IsAtRest, MayBeDue}
use Rattle.mdcc_log.specs.Crash.{IsBetween, IsCurrent, IsDead, IsIdle, IsLog, IsOlder, payloads_by}
use Rattle.mdcc_log.specs.Frames.{OpenAreas, IsInUse, IsSpare, other_of, place_of}
use Rattle.mdcc_log.specs.Groups.{AreFull, IsUndecidedGroup, MayHaveDueGroup, MayHaveGroup, ReadsAsAllOrNone, frames_size, records_size, with_payloads}
use Rattle.mdcc_log.specs.Room.{IsFull}
use Rattle.mdcc_log.proofs.Choice.{Seen, copy_is_taken, current_is_read, current_read, current_seen, current_taken, front_is_read, front_seen, idle_other}
use Rattle.mdcc_log.proofs.Dues.{idle_moment}
use Rattle.mdcc_log.proofs.Packs.{bodies_both, both_short}
use Rattle.mdcc_log.proofs.Uses.{is_current, spare_idle}

-- ---- the bytes of a group

pub group_frames : (group : List (List ℕ)) → 1 ≤ length group → flat_map frame_bytes group ≡ 1 ∷ group_body group
group_frames [] some = absurd (omega (arith, some))
group_frames (p ∷ ps) some = refl

pub group_sizes : (group : List (List ℕ)) → frames_size group ≡ records_size group + length group
group_sizes [] = refl
group_sizes (p ∷ ps) = omega (arith, group_sizes ps, length-append (frame_bytes p) (flat_map frame_bytes ps), length-append (frame_body p) (flat_map frame_body ps))

-- how many bytes are written for a group
pub laid_size : (p : List ℕ) (ps : List (List ℕ)) → length (group_body (p ∷ ps) ++ 0 ∷ []) ≡ frames_size (p ∷ ps)
laid_size p ps = omega (arith, length-append (group_body (p ∷ ps)) (0 ∷ []), ap (λ (l : List ℕ). length l) (group_frames (p ∷ ps) (omega arith)))

-- what is counted of it
pub counted_to : (i v : OpenAreas) (k n s size body : ℕ) → i ≡ v → k ≡ n → s ≡ size → size - n ≡ body
    → record i { count = i.count + k; tail = i.tail + k; body = i.body + (s - k); size = i.size + s } ≡ record v { count = v.count + n; tail = v.tail + n; body = v.body + body; size = v.size + size }
counted_to i v k n s size body same count sized records =
    ap (λ (x : ℕ). record i { count = i.count + x; tail = i.tail + x; body = i.body + (s - x); size = i.size + s }) count
    ∙ ap (λ (x : ℕ). record i { count = i.count + n; tail = i.tail + n; body = i.body + (x - n); size = i.size + x }) sized
    ∙ ap (λ (x : ℕ). record i { count = i.count + n; tail = i.tail + n; body = i.body + x; size = i.size + size }) records
    ∙ ap (λ (w : OpenAreas). record w { count = w.count + n; tail = w.tail + n; body = w.body + body; size = w.size + size }) same

-- ---- a group of one

pub one_body : (p : List ℕ) → group_body (p ∷ []) ≡ frame_body p
one_body p = append-nil (frame_body p)

pub one_frame : (p : List ℕ) → frames_size (p ∷ []) ≡ length p + 5
one_frame p = omega (arith, length-append (frame_bytes p) [], length-append (frame_body p) [])

pub one_record : (p : List ℕ) → records_size (p ∷ []) ≡ length p + 4
one_record p = omega (arith, length-append (frame_body p) [])

pub one_between : (area : ℕ) (log : AreaLog) (p c : List ℕ) → MayHaveGroup area log (p ∷ []) c → IsBetween area log p c
one_between area log p c (inl is) = inl is
one_between area log p c (inr u) = inr (record {
  valid = u.valid;
  fits = u.short.0;
  gate = u.gate;
  file = u.file ∙ ap (λ (l : List ℕ). front_of log ++ u.gate ∷ (l ++ 0 ∷ [])) (one_body p);
})

pub one_due : (area : ℕ) (log : AreaLog) (p c : List ℕ) → MayHaveDueGroup area log (p ∷ []) c → MayBeDue area log p c
one_due area log p c (inl may) = inl (one_between area log p c may)
one_due area log p c (inr is) = inr is

pub one_full : (frames : OpenAreas) (p : List ℕ) → AreFull frames (p ∷ []) → IsFull frames (length p)
one_full frames p (inl past) = inl (omega (arith, one_frame p, past))
one_full frames p (inr (inl past)) = inr (inl (omega (arith, one_frame p, past)))
one_full frames p (inr (inr (due, inl last))) = inr (inr (due, inl last))
one_full frames p (inr (inr (due, inr past))) = inr (inr (due, inr (omega (arith, one_record p, past))))

pub full_one : (frames : OpenAreas) (p : List ℕ) → IsFull frames (length p) → AreFull frames (p ∷ [])
full_one frames p (inl past) = inl (omega (arith, one_frame p, past))
full_one frames p (inr (inl past)) = inr (inl (omega (arith, one_frame p, past)))
full_one frames p (inr (inr (due, inl last))) = inr (inr (due, inl last))
full_one frames p (inr (inr (due, inr past))) = inr (inr (due, inr (omega (arith, one_record p, past))))

pub none_left : (ps : List (List ℕ)) → length ps ≡ 0 → ps ≡ []
none_left [] none = refl
none_left (p ∷ ps) none = absurd (omega (arith, none))

-- so many bytes are counted in 64 bits, where they are no more than a log has
exact_size : (n m : ℕ) → m ≡ min n (2 ^ 64 - 1) → m ≤ 2 ^ 30 → n ≡ m
exact_size n m is few = grind (arith, nat_tests)

pub count_within : (group : List (List ℕ)) (m : ℕ) → m ≡ min (frames_size group) (2 ^ 64 - 1) → m ≤ 2 ^ 30 → length group ≤ m
count_within group m is few = omega (arith, exact_size (frames_size group) m is few, group_sizes group)

pub within_limit : (one two three : ℕ) (passed : Bool) → passed ≡ false → (log_limit < one + two + three → IsTrue passed) → one + two + three ≤ 2 ^ 30
within_limit one two three passed is past = elim (cases_lt (2 ^ 30) (one + two + three)) [
  | inl more ↦ absurd (false≢true (sym is ∙ past more))
  | inr few ↦ few
]

-- there is no room just for a copy
pub copy_full : (frames : OpenAreas) (group : List (List ℕ)) (m : ℕ) (P : Type 0) → m ≡ min (frames_size group) (2 ^ 64 - 1) → frames.body + frames.count + m + 9 ≤ 2 ^ 30 → frames.size + m + 0 ≤ 2 ^ 30 → frames.every ≤ frames.tail + length group → (frames.generation ≡ 2 ^ 64 - 1 → ⊥)
    → (P ↔ (log_limit < frames.body + (m - length group) + 26)) → P ↔ AreFull frames group
copy_full frames group m P is first second due generation by = (λ p. inr (inr (due, inr (omega (arith, exact, group_sizes group, by.0 p)))), back)
  where
    exact : frames_size group ≡ m
    exact = exact_size (frames_size group) m is (omega arith)

    back : AreFull frames group → P
    back (inl past) = absurd (omega (arith, exact, past))
    back (inr (inl past)) = absurd (omega (arith, exact, past))
    back (inr (inr (also, inl last))) = absurd (generation last)
    back (inr (inr (also, inr past))) = by.1 (omega (arith, exact, group_sizes group, past))

pub joined_front : (log : AreaLog) (group : List (List ℕ)) (e : List ℕ) → 1 ≤ length group → front_of (with_payloads log group) ++ e ≡ front_of log ++ 1 ∷ (group_body group ++ e)
joined_front log group e some =
    ap (λ (l : List ℕ). (head_bytes log.head ++ l) ++ e) (flat_map-append frame_bytes log.tail group)
    ∙ ap (λ (l : List ℕ). l ++ e) (sym (append_assoc (head_bytes log.head) (flat_map frame_bytes log.tail) (flat_map frame_bytes group)))
    ∙ append_assoc (front_of log) (flat_map frame_bytes group) e
    ∙ ap (λ (l : List ℕ). front_of log ++ (l ++ e)) (group_frames group some)

pub joined_payloads : (log : AreaLog) (group : List (List ℕ)) → payloads_of (with_payloads log group) ≡ payloads_of log ++ group
joined_payloads log group = sym (append_assoc (records_of log.head) log.tail group)

joined_valid : (area : ℕ) (log : AreaLog) (group : List (List ℕ)) → IsLog area log → AreShort group → IsLog area (with_payloads log group)
joined_valid area log group valid short = record { head = valid.head; short = both_short log.tail group valid.short short }

-- ---- what is read

undecided_group_read : (area : ℕ) (log : AreaLog) (group : List (List ℕ)) (bytes : List ℕ) → 1 ≤ length group → IsUndecidedGroup area log group bytes → ReadsAsAllOrNone (payloads_of log) group (payloads_in (read_area bytes))
undecided_group_read area log group bytes some u = elim (cases_eq u.gate 1) [
  | inl opened ↦ inr (ap payloads_in (front_is_read area (with_payloads log group) 0 [] bytes (joined_valid area log group u.valid u.short) (omega arith)
      (u.file ∙ ap (λ (n : ℕ). front_of log ++ n ∷ (group_body group ++ 0 ∷ [])) opened ∙ sym (joined_front log group (0 ∷ []) some)))
      ∙ ap (λ (l : List (List ℕ)). let ok : Result (List (List ℕ)) ℕ = Ok l in ok) (joined_payloads log group))
  | inr shut ↦ inl (ap payloads_in (front_is_read area log u.gate (group_body group ++ 0 ∷ []) bytes u.valid shut u.file))
]

group_read : (area : ℕ) (log : AreaLog) (group : List (List ℕ)) (current : List ℕ) → 1 ≤ length group → MayHaveGroup area log group current → ReadsAsAllOrNone (payloads_of log) group (payloads_in (read_area current))
group_read area log group current some (inl is) = inl (ap payloads_in (current_read area log current is))
group_read area log group current some (inr u) = undecided_group_read area log group current some u

group_seen : (area : ℕ) (log : AreaLog) (group : List (List ℕ)) (current : List ℕ) → MayHaveGroup area log group current → Seen area (generation_of log.head) current
group_seen area log group current (inl is) = current_seen area log current is
group_seen area log group current (inr u) = front_seen area log (u.gate ∷ (group_body group ++ 0 ∷ [])) current u.valid u.file

due_group_read : (area : ℕ) (log : AreaLog) (group : List (List ℕ)) (current other : List ℕ) → 1 ≤ length group → MayHaveDueGroup area log group current → IsIdle (with_payloads log group) other → ReadsAsAllOrNone (payloads_of log) group (payloads_by area current other)
due_group_read area log group current other some (inr is) idle =
    inr (current_is_read area (with_payloads log group) current other is idle ∙ ap (λ (l : List (List ℕ)). let ok : Result (List (List ℕ)) ℕ = Ok l in ok) (joined_payloads log group))
due_group_read area log group current other some (inl may) idle = elim (idle_other (with_payloads log group) other idle) [
  | inl loses ↦ subst (λ (r : Result (List (List ℕ)) ℕ). ReadsAsAllOrNone (payloads_of log) group r) (sym (current_taken area (generation_of log.head) current other (group_seen area log group current may) loses)) (group_read area log group current some may)
  | inr copy ↦ inr (copy_is_taken area (with_payloads log group) current other (group_seen area log group current may) copy ∙ ap (λ (l : List (List ℕ)). let ok : Result (List (List ℕ)) ℕ = Ok l in ok) (joined_payloads log group))
]

-- ---- an append

pub stands_group : (area : ℕ) (log : AreaLog) (group : List (List ℕ)) (c : List ℕ) → IsLog area log → AreShort group → MayStandBehind (front_of log) (group_body group) c → MayHaveGroup area log group c
stands_group area log group c valid short (inl shut) = inl (record { valid = valid; file = inr (shut.0, shut.1) })
stands_group area log group c valid short (inr frames) = inr (record { valid = valid; short = short; gate = frames.0; file = frames.1 })

joined_body : (log : AreaLog) (group : List (List ℕ)) → length (records_bytes (payloads_of (with_payloads log group))) ≡ length (records_bytes (payloads_of log)) + records_size group
joined_body log group =
    ap (λ (l : List (List ℕ)). length (records_bytes l)) (joined_payloads log group) ∙ ap (λ (l : List ℕ). length l) (bodies_both (payloads_of log) group) ∙ length-append (records_bytes (payloads_of log)) (records_bytes group)

pub in_use_joined : (frames new : OpenAreas) (log : AreaLog) (group : List (List ℕ)) (bytes bytes_new : List ℕ) (may may_new : List ℕ → Type 0) → IsInUse frames log bytes may → AreShort group → 1 ≤ length group
    → IsAtEnd (front_of log ++ 1 ∷ group_body group) new.size bytes_new may_new → new.area ≡ frames.area → new.generation ≡ frames.generation → new.count ≡ frames.count + length group → new.start ≡ frames.start → new.tail ≡ frames.tail + length group → new.body ≡ frames.body + records_size group
    → IsInUse new (with_payloads log group) bytes_new may_new
in_use_joined frames new log group bytes bytes_new may may_new use' short some rest area generation count start tail body = record {
  valid = subst (λ (n : ℕ). IsLog n (with_payloads log group)) (sym area) (joined_valid frames.area log group use'.valid short);
  file = rest.file ∙ append_assoc (front_of log) (1 ∷ group_body group) (0 ∷ []) ∙ sym (joined_front log group (0 ∷ []) some);
  generation = generation ∙ use'.generation;
  count = omega (arith, count, use'.count, ap (λ (l : List (List ℕ)). length l) (joined_payloads log group), length-append (payloads_of log) group);
  start = start ∙ use'.start;
  tail = omega (arith, tail, use'.tail, length-append log.tail group);
  body = omega (arith, body, use'.body, joined_body log group);
  size = rest.counted;
  durable = rest.durable;
}

module _ {D : Type 0} (disk : D → ℕ → Disk) (may_leave : D → ℕ → List ℕ → Type 0) (moment : D → ℕ) (left_since : D → ℕ → ℕ → List ℕ → Type 0) (only_now : (disks : D) (p : ℕ) (c : List ℕ) → left_since disks p (moment disks) c → may_leave disks p c) where
  -- where nothing was written
  pub rest_reads : (disks : D) (frames : OpenAreas) (all : List (List ℕ)) → IsAtRest disk may_leave disks frames all → (current other : List ℕ)
      → left_since disks (place_of frames.centre frames.area) (moment disks) current → left_since disks (place_of frames.centre (other_of frames.area)) (moment disks) other → payloads_by frames.area current other ≡ Ok all
  rest_reads disks frames all rest current other left left_other =
      current_is_read frames.area rest.log current other
      (subst (IsCurrent frames.area rest.log) (sym (rest.in_use.durable current (only_now disks (place_of frames.centre frames.area) current left))) (is_current rest.in_use))
      (subst (IsIdle rest.log) (sym (rest.spare.durable other (only_now disks (place_of frames.centre (other_of frames.area)) other left_other))) (spare_idle rest.in_use rest.spare))
      ∙ ap (λ (ps : List (List ℕ)). let ok : Result (List (List ℕ)) ℕ = Ok ps in ok) (sym rest.payloads_are)

  -- what a crash leaves of each area then
  pub unwritten : (old : D) (frames : OpenAreas) (log : AreaLog) (group : List (List ℕ)) → IsInUse frames log (disk old (place_of frames.centre frames.area)).bytes (may_leave old (place_of frames.centre frames.area))
      → LeavesOnly moment left_since old old (place_of frames.centre frames.area) (MayHaveDueGroup frames.area log group)
  unwritten old frames log group uses =
      started moment left_since old (place_of frames.centre frames.area) (MayHaveDueGroup frames.area log group)
      (λ c left. inl (inl (subst (IsCurrent frames.area log) (sym (uses.durable c (only_now old (place_of frames.centre frames.area) c left))) (is_current uses))))

  pub unwritten_other : (old : D) (frames : OpenAreas) (log : AreaLog) → frames.generation ≡ generation_of log.head
      → IsSpare frames (disk old (place_of frames.centre (other_of frames.area))).bytes (may_leave old (place_of frames.centre (other_of frames.area)))
      → LeavesOnly moment left_since old old (place_of frames.centre (other_of frames.area)) (IsIdle log)
  unwritten_other old frames log is spare =
      started moment left_since old (place_of frames.centre (other_of frames.area)) (IsIdle log)
      (λ c left. subst (IsIdle log) (sym (spare.durable c (only_now old (place_of frames.centre (other_of frames.area)) c left))) (of_both spare.idle))
    where
      of_both : IsDead (disk old (place_of frames.centre (other_of frames.area))).bytes ⊎ IsOlder frames.generation (disk old (place_of frames.centre (other_of frames.area))).bytes → IsIdle log (disk old (place_of frames.centre (other_of frames.area))).bytes
      of_both (inl dead) = inl dead
      of_both (inr older) = inr (inl (subst (λ (n : ℕ). IsOlder n (disk old (place_of frames.centre (other_of frames.area))).bytes) is older))

  -- where all were copied behind the group
  module _ (old mid new : D) (frames more : OpenAreas) (log : AreaLog) (group : List (List ℕ)) (centre_is : more.centre ≡ frames.centre) (area_is : more.area ≡ frames.area) where
    here : place_of more.centre more.area ≡ place_of frames.centre frames.area
    here = ap (λ (n : ℕ). place_of n more.area) centre_is ∙ ap (place_of frames.centre) area_is

    there : place_of more.centre (other_of more.area) ≡ place_of frames.centre (other_of frames.area)
    there = ap (λ (n : ℕ). place_of n (other_of more.area)) centre_is ∙ ap (λ (n : ℕ). place_of frames.centre (other_of n)) area_is

    pub due_moment : LeavesOnly moment left_since old mid (place_of frames.centre frames.area) (MayHaveGroup frames.area log group) → LeavesOnly moment left_since mid new (place_of more.centre more.area) (IsCurrent more.area (with_payloads log group))
        → LeavesOnly moment left_since old new (place_of frames.centre frames.area) (MayHaveDueGroup frames.area log group)
    due_moment first second =
        let second_here = subst (λ (n : ℕ). LeavesOnly moment left_since mid new (place_of frames.centre frames.area) (IsCurrent n (with_payloads log group))) area_is (subst (λ (q : ℕ). LeavesOnly moment left_since mid new q (IsCurrent more.area (with_payloads log group))) here second) in
        both (weakened (MayHaveDueGroup frames.area log group) first (λ c has. inl has)) (weakened (MayHaveDueGroup frames.area log group) second_here (λ c has. inr has))

    pub due_moment_other : LeavesOnly moment left_since old mid (place_of frames.centre (other_of frames.area)) (IsIdle (with_payloads log group)) → LeavesOnly moment left_since mid new (place_of more.centre (other_of more.area)) (IsIdle (with_payloads log group))
        → LeavesOnly moment left_since old new (place_of frames.centre (other_of frames.area)) (IsIdle (with_payloads log group))
    due_moment_other first second = both first (subst (λ (q : ℕ). LeavesOnly moment left_since mid new q (IsIdle (with_payloads log group))) there second)

  module _ (old mid : D) (frames : OpenAreas) (all group : List (List ℕ)) (some : 1 ≤ length group) (rest : IsAtRest disk may_leave old frames all)
      (beside : KeepsOthers disk may_leave moment left_since old mid (place_of frames.centre frames.area))
      (first : LeavesOnly moment left_since old mid (place_of frames.centre frames.area) (MayHaveGroup frames.area rest.log group))
    where
      reads_all : (current other : List ℕ) → MayHaveDueGroup frames.area rest.log group current → IsIdle (with_payloads rest.log group) other → ReadsAsAllOrNone all group (payloads_by frames.area current other)
      reads_all current other may idle =
          subst (λ (ps : List (List ℕ)). ReadsAsAllOrNone ps group (payloads_by frames.area current other)) (sym rest.payloads_are) (due_group_read frames.area rest.log group current other some may idle)

      group_other : LeavesOnly moment left_since old mid (place_of frames.centre (other_of frames.area)) (IsIdle (with_payloads rest.log group))
      group_other = idle_moment disk may_leave moment left_since only_now old mid frames (with_payloads rest.log group) rest.in_use.generation beside rest.spare

      -- where nothing was copied
      pub group_reads : (current other : List ℕ) → left_since mid (place_of frames.centre frames.area) (moment old) current → left_since mid (place_of frames.centre (other_of frames.area)) (moment old) other
          → ReadsAsAllOrNone all group (payloads_by frames.area current other)
      group_reads current other left left_other = reads_all current other (inl (first.each current left)) (group_other.each other left_other)

      -- and where all were
      pub due_group_reads : (new : D) (more : OpenAreas) → more.centre ≡ frames.centre → more.area ≡ frames.area → LeavesOnly moment left_since mid new (place_of more.centre more.area) (IsCurrent more.area (with_payloads rest.log group))
          → LeavesOnly moment left_since mid new (place_of more.centre (other_of more.area)) (IsIdle (with_payloads rest.log group)) → (current other : List ℕ)
          → left_since new (place_of frames.centre frames.area) (moment old) current → left_since new (place_of frames.centre (other_of frames.area)) (moment old) other → ReadsAsAllOrNone all group (payloads_by frames.area current other)
      due_group_reads new more centre_is area_is second second_other current other left left_other =
          let at_place = due_moment old mid new frames more rest.log group centre_is area_is first second in
          let at_other = due_moment_other old mid new frames more rest.log group centre_is area_is group_other second_other in
          reads_all current other (at_place.each current left) (at_other.each other left_other)
