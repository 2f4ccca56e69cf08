-- Which area is taken.
use Rattle.std.proofs.Common.{◌≡◌, ◌≢◌, ◌⊎◌, inl, inr, ℕ, ◌+◌, ◌^◌, ◌<◌, ◌≤◌, ◌==◌, nat_le, nat_lt, Bool, cond, true, false, List, [], ◌∷◌, ◌++◌, length, Ok, Err, Result, sym, ◌∙◌, ap, refl, subst, arith, append_assoc, length-append}
use Rattle.std.proofs.lemmas.Bool.{cases_eq, cases_lt}
use Rattle.std.proofs.lemmas.Bool.Decides.{nat_tests}
use Rattle.std.proofs.lemmas.List.{append-nil}
use Rattle.std.specs.List.{flat_map}
use Rattle.mdcc_log_file.specs.Log.{log_mark, frame_body, frame_bytes}
use Rattle.mdcc_log_file.proofs.LogRead.{frames_are_long, none_of, short_more, not_open}
use Rattle.mdcc_log_file.specs.Area.{Head, AreaLog, area_mark, generation_of, records_of, payloads_of, records_bytes, copy_body, head_bytes, front_of, is_first, is_second, area_gate, is_copy, is_log, generation_in, copy_generation, newer, only, taken, read_area, read_area_taken, payloads_in, payloads}
use Rattle.mdcc_log_file.specs.Area.Head.{Version1, Version2}
use Rattle.mdcc_log.specs.Crash.{IsHead, IsLog, IsCurrent, IsUndecided, IsDead, IsOlder, IsCopy, IsIdle, payloads_by, ReadsAsEither, CurrentIsRead, BetweenIsRead}
use Rattle.mdcc_log.specs.Frames.{appended, packed}
use Rattle.mdcc_log.proofs.AreaRead.{shorter_test, is_copy_from, is_log_from, unmarked_no_copy, short_no_copy, short_no_log, second_no_log, shut_no_copy, generation_is, copy_numbered, copy_long, area_is_read, read_is_by}

newer_second : (g h : ℕ) → g < h → newer (Ok g) (Ok h) ≡ Ok 1
newer_second g h lt = let other : (g == h) ≡ false = grind (arith, nat_tests) in let less : nat_lt g h ≡ true = grind (arith, nat_tests) in rw (other, less) refl

newer_first : (g h : ℕ) → h < g → newer (Ok g) (Ok h) ≡ Ok 0
newer_first g h lt = let other : (g == h) ≡ false = grind (arith, nat_tests) in let less : nat_lt g h ≡ false = grind (arith, nat_tests) in rw (other, less) refl

-- by what the tests answer
abbrev pub choice : Bool → Bool → Bool → Bool → Result ℕ ℕ → Result ℕ ℕ → Result ℕ ℕ
choice copy2 log1 copy1 short1 gen1 gen2 =
    cond copy2 (cond log1 (newer (Ok 0) gen2) (cond copy1 (newer gen1 gen2) (only 1 gen2))) (cond log1 (Ok 0) (cond copy1 (only 0 gen1) (cond short1 (Ok 0) (Err 0))))

pub decided : (first second : List ℕ) (copy2 log1 copy1 short1 : Bool) (gen1 gen2 : Result ℕ ℕ) → is_copy second ≡ copy2 → is_log first ≡ log1 → is_copy first ≡ copy1 → nat_le (length first) 9 ≡ short1 → copy_generation first ≡ gen1 → copy_generation second ≡ gen2
    → taken first second ≡ choice copy2 log1 copy1 short1 gen1 gen2
decided first second copy2 log1 copy1 short1 gen1 gen2 a b c d e f =
    ap (λ (x : Bool). choice x (is_log first) (is_copy first) (nat_le (length first) 9) (copy_generation first) (copy_generation second)) a
    ∙ ap (λ (x : Bool). choice copy2 x (is_copy first) (nat_le (length first) 9) (copy_generation first) (copy_generation second)) b
    ∙ ap (λ (x : Bool). choice copy2 log1 x (nat_le (length first) 9) (copy_generation first) (copy_generation second)) c
    ∙ ap (λ (x : Bool). choice copy2 log1 copy1 x (copy_generation first) (copy_generation second)) d
    ∙ ap (λ (x : Result ℕ ℕ). choice copy2 log1 copy1 short1 x (copy_generation second)) e
    ∙ ap (λ (x : Result ℕ ℕ). choice copy2 log1 copy1 short1 gen1 x) f

pub either : (b : Bool) → (b ≡ true) ⊎ (b ≡ false)
either true = inl refl
either false = inr refl

-- ---- what the choice sees of the area in use, and of the other

pub record SeenCopy (g : ℕ) (bytes : List ℕ) : Type 0 where
  pub copy : is_copy bytes ≡ true
  pub not_log : is_log bytes ≡ false
  pub generation : copy_generation bytes ≡ Ok g

pub data Seen (area g : ℕ) (bytes : List ℕ) : Type 0 where
  Short : area ≡ 0 → g ≡ 0 → length bytes ≤ 9 → Seen area g bytes
  First : area ≡ 0 → g ≡ 0 → is_log bytes ≡ true → Seen area g bytes
  Second : 0 < g → SeenCopy g bytes → Seen area g bytes

pub data Other (g : ℕ) (bytes : List ℕ) : Type 0 where
  None : is_copy bytes ≡ false → Other g bytes
  Less : (h : ℕ) → h < g → SeenCopy h bytes → Other g bytes

pub first_taken : (first second : List ℕ) (g : ℕ) → Seen 0 g first → Other g second → taken first second ≡ Ok 0
first_taken first second g (Short at zero_is few) (None other) = decided first second false false false true _ _ other (short_no_log first few) (short_no_copy first few) (shorter_test first few) refl refl
first_taken first second g (Short at zero_is few) (Less h less copy) = absurd (omega (arith, zero_is, less))
first_taken first second g (First at zero_is log) (None other) = decided first second false true _ _ _ _ other log refl refl refl refl
first_taken first second g (First at zero_is log) (Less h less copy) = absurd (omega (arith, zero_is, less))
first_taken first second g (Second some seen) (None other) = decided first second false false true _ _ _ other seen.not_log seen.copy refl seen.generation refl
first_taken first second g (Second some seen) (Less h less copy) = decided first second true false true _ _ _ copy.copy seen.not_log seen.copy refl seen.generation copy.generation ∙ newer_first g h less

pub second_taken : (first second : List ℕ) (area g : ℕ) → 0 < area → Seen area g second → Other g first → taken first second ≡ Ok 1
second_taken first second area g other_area (Short at zero_is few) other = absurd (omega (arith, at, other_area))
second_taken first second area g other_area (First at zero_is log) other = absurd (omega (arith, at, other_area))
second_taken first second area g other_area (Second some seen) (None other) = elim (either (is_log first)) [
  | inl log ↦ decided first second true true _ _ _ _ seen.copy log refl refl refl seen.generation ∙ newer_second 0 g some
  | inr zero_is ↦ decided first second true false false _ _ _ seen.copy zero_is other refl refl seen.generation
]
second_taken first second area g other_area (Second some seen) (Less h less copy) =
    decided first second true false true _ _ _ seen.copy copy.not_log copy.copy refl copy.generation seen.generation ∙ newer_second h g less

pub first_passed : (first second : List ℕ) (g h : ℕ) → Seen 0 g first → g < h → SeenCopy h second → taken first second ≡ Ok 1
first_passed first second g h (Short at zero_is few) more copy = decided first second true false false _ _ _ copy.copy (short_no_log first few) (short_no_copy first few) refl refl copy.generation
first_passed first second g h (First at zero_is log) more copy = decided first second true true _ _ _ _ copy.copy log refl refl refl copy.generation ∙ newer_second 0 h (omega (arith, zero_is, more))
first_passed first second g h (Second some seen) more copy = decided first second true false true _ _ _ copy.copy seen.not_log seen.copy refl seen.generation copy.generation ∙ newer_second g h more

pub second_passed : (first second : List ℕ) (area g h : ℕ) → 0 < area → Seen area g second → g < h → SeenCopy h first → taken first second ≡ Ok 0
second_passed first second area g h other_area (Short at zero_is few) more copy = absurd (omega (arith, at, other_area))
second_passed first second area g h other_area (First at zero_is log) more copy = absurd (omega (arith, at, other_area))
second_passed first second area g h other_area (Second some seen) more copy = decided first second true false true _ _ _ seen.copy copy.not_log copy.copy refl copy.generation seen.generation ∙ newer_first h g more

-- ---- what is read then

by_area : (area : ℕ) (current other : List ℕ) → area ≢ 0 → payloads_by area current other ≡ payloads other current
by_area area current other apart = let test : (area == 0) ≡ false = grind (arith, nat_tests) in ap (λ (b : Bool). cond b (payloads current other) (payloads other current)) test

pub current_taken : (area g : ℕ) (current other : List ℕ) → Seen area g current → Other g other → payloads_by area current other ≡ payloads_in (read_area current)
current_taken area g current other seen loses = elim (cases_eq area 0) [
  | inl is ↦ ap (λ (n : ℕ). payloads_by n current other) is ∙ ap (λ (t : Result ℕ ℕ). payloads_in (read_area_taken t current other)) (first_taken current other g (subst (λ (n : ℕ). Seen n g current) is seen) loses)
  | inr apart ↦ by_area area current other apart ∙ ap (λ (t : Result ℕ ℕ). payloads_in (read_area_taken t other current)) (second_taken other current area g (omega (arith, apart)) seen loses)
]

pub other_taken : (area g h : ℕ) (current other : List ℕ) → Seen area g current → g < h → SeenCopy h other → payloads_by area current other ≡ payloads_in (read_area other)
other_taken area g h current other seen more copy = elim (cases_eq area 0) [
  | inl is ↦ ap (λ (n : ℕ). payloads_by n current other) is ∙ ap (λ (t : Result ℕ ℕ). payloads_in (read_area_taken t current other)) (first_passed current other g h (subst (λ (n : ℕ). Seen n g current) is seen) more copy)
  | inr apart ↦ by_area area current other apart ∙ ap (λ (t : Result ℕ ℕ). payloads_in (read_area_taken t other current)) (second_passed other current area g h (omega (arith, apart)) seen more copy)
]

-- ---- the area in use

first_seen : (area : ℕ) (tail : List (List ℕ)) (e bytes : List ℕ) → area ≡ 0 → bytes ≡ log_mark ++ (flat_map frame_bytes tail ++ e) → Seen area 0 bytes
first_seen area tail e bytes at stands = elim (cases_lt 9 (length bytes)) [
  | inl long ↦ First at refl (is_log_from bytes long (ap is_first stands))
  | inr short ↦ Short at refl short
]

pub second_seen : (area gate g : ℕ) (rs : List (List ℕ)) (e bytes : List ℕ) → gate ≡ 1 → 0 < g → g < 2 ^ 64 → bytes ≡ area_mark ++ gate ∷ (copy_body g rs ++ e) → SeenCopy g bytes
second_seen area gate g rs e bytes opened some fits stands =
    let long : 25 ≤ length bytes = omega (arith, ap (λ (l : List ℕ). length l) stands, copy_long gate g rs e) in
    let marked : is_second bytes ≡ true = ap is_second stands in
    record {
      copy = is_copy_from bytes (omega arith) marked (ap area_gate stands ∙ opened);
      not_log = second_no_log bytes marked;
      generation = generation_is bytes g long (ap generation_in stands ∙ copy_numbered gate g rs e fits) some;
    }

pub front_seen : (area : ℕ) (log : AreaLog) (e bytes : List ℕ) → IsLog area log → bytes ≡ front_of log ++ e → Seen area (generation_of log.head) bytes
front_seen area log e bytes valid stands = by_head log.head log.tail valid.head stands
  where
    by_head : (head : Head) (tail : List (List ℕ)) → IsHead area head → bytes ≡ (head_bytes head ++ flat_map frame_bytes tail) ++ e → Seen area (generation_of head) bytes
    by_head Version1 tail ok is = first_seen area tail e bytes ok is
    by_head (Version2 g rs) tail ok is = Second ok.0 (second_seen area 1 g rs (flat_map frame_bytes tail ++ e) bytes refl ok.0 ok.1.0 (is ∙ ap (λ (l : List ℕ). area_mark ++ 1 ∷ l) (append_assoc (copy_body g rs) (flat_map frame_bytes tail) e)))

-- a log that was never begun
fresh_log : (log : AreaLog) → log.head ≡ Version1 → log.tail ≡ [] → record { head = Version1; tail = [] } ≡ log
fresh_log log head tail =
    sym (ap (λ (h : Head). let made : AreaLog = record { head = h; tail = log.tail } in made) head ∙ ap (λ (t : List (List ℕ)). let made : AreaLog = record { head = Version1; tail = t } in made) tail)

pub fresh_is_read : (bytes : List ℕ) → length bytes ≤ 9 → read_area bytes ≡ Ok (record { head = Version1; tail = [] })
fresh_is_read bytes short = read_is_by bytes true (is_first bytes) (is_copy bytes) (shorter_test bytes short) refl refl

-- a front with so few bytes is that of a log without payloads
pub few_bytes : (log : AreaLog) (e : List ℕ) → 0 < length e → length (front_of log ++ e) ≤ 9 → (log.head ≡ Version1) × (log.tail ≡ [])
few_bytes log e more few = by_head log.head log.tail few
  where
    by_head : (head : Head) (tail : List (List ℕ)) → length ((head_bytes head ++ flat_map frame_bytes tail) ++ e) ≤ 9 → (head ≡ Version1) × (tail ≡ [])
    by_head Version1 tail short = (refl, none_of tail (omega (arith, short, frames_are_long tail, length-append (flat_map frame_bytes tail) e)))
    by_head (Version2 g rs) tail short = absurd (omega (arith, short, length-append (records_bytes rs ++ flat_map frame_bytes tail) e))

pub front_is_read : (area : ℕ) (log : AreaLog) (gate : ℕ) (rest bytes : List ℕ) → IsLog area log → gate ≢ 1 → bytes ≡ front_of log ++ gate ∷ rest → read_area bytes ≡ Ok log
front_is_read area log gate rest bytes valid shut stands = elim (cases_lt 9 (length bytes)) [
  | inl long ↦ area_is_read area log (gate ∷ rest) bytes valid (omega arith) (not_open gate rest shut) long stands
  | inr short ↦
      let begun = few_bytes log (gate ∷ rest) (omega arith) (subst (λ (l : List ℕ). length l ≤ 9) stands short) in
      fresh_is_read bytes short ∙ ap (λ (l : AreaLog). Ok l) (fresh_log log begun.0 begun.1)
]

pub current_seen : (area : ℕ) (log : AreaLog) (bytes : List ℕ) → IsCurrent area log bytes → Seen area (generation_of log.head) bytes
current_seen area log bytes current = elim current.file [
  | inl begun ↦ Short (subst (λ (h : Head). IsHead area h) begun.0 current.valid.head) (ap generation_of begun.0) begun.1.1
  | inr shut ↦ front_seen area log (0 ∷ shut.0) bytes current.valid shut.1
]

pub current_read : (area : ℕ) (log : AreaLog) (bytes : List ℕ) → IsCurrent area log bytes → read_area bytes ≡ Ok log
current_read area log bytes current = elim current.file [
  | inl begun ↦ fresh_is_read bytes begun.1.1 ∙ ap (λ (l : AreaLog). Ok l) (fresh_log log begun.0 begun.1.0)
  | inr shut ↦ front_is_read area log 0 shut.0 bytes current.valid (omega arith) shut.1
]

-- ---- the other area

pub dead_other : (g : ℕ) (bytes : List ℕ) → IsDead bytes → Other g bytes
dead_other g bytes (inl few) = None (short_no_copy bytes few)
dead_other g bytes (inr (inl unmarked)) = None (unmarked_no_copy bytes unmarked)
dead_other g bytes (inr (inr shut)) = None (shut_no_copy bytes (omega (arith, shut)))

pub older_other : (g : ℕ) (bytes : List ℕ) → IsOlder g bytes → Other g bytes
older_other g bytes older = elim (cases_eq (area_gate bytes) 1) [
  | inl opened ↦ Less (generation_in bytes) older.older (record {
    copy = is_copy_from bytes (omega (arith, older.long)) older.marked opened;
    not_log = second_no_log bytes older.marked;
    generation = generation_is bytes (generation_in bytes) older.long refl older.some;
  })
  | inr shut ↦ None (shut_no_copy bytes shut)
]

pub record TakenCopy (log : AreaLog) (bytes : List ℕ) : Type 0 where
  pub seen : SeenCopy (generation_of log.head + 1) bytes
  pub read : read_area bytes ≡ Ok (packed log)
  pub stands : bytes ≡ front_of (packed log) ++ 0 ∷ []
  pub long : 9 < length bytes

pub copy_valid : (area : ℕ) (log : AreaLog) (bytes : List ℕ) → IsCopy log bytes → IsLog area (packed log)
copy_valid area log bytes copy = record { head = (omega arith, (copy.generation, (copy.count, copy.short))); short = tt }

copy_other : (log : AreaLog) (bytes : List ℕ) → IsCopy log bytes → Other (generation_of log.head) bytes ⊎ TakenCopy log bytes
copy_other log bytes copy = elim (cases_eq copy.gate 1) [
  | inl opened ↦ inr (record {
    seen = second_seen 0 copy.gate (generation_of log.head + 1) (payloads_of log) (0 ∷ []) bytes opened (omega arith) copy.generation copy.file;
    read = front_is_read 0 (packed log) 0 [] bytes (copy_valid 0 log bytes copy) (omega arith) (copy.file ∙ ap (λ (n : ℕ). area_mark ++ n ∷ (copy_body (generation_of log.head + 1) (payloads_of log) ++ 0 ∷ [])) opened ∙ closed);
    stands = copy.file ∙ ap (λ (n : ℕ). area_mark ++ n ∷ (copy_body (generation_of log.head + 1) (payloads_of log) ++ 0 ∷ [])) opened ∙ closed;
    long = omega (arith, ap (λ (l : List ℕ). length l) copy.file, copy_long copy.gate (generation_of log.head + 1) (payloads_of log) (0 ∷ []));
  })
  | inr shut ↦ inl (None (shut_no_copy bytes (λ is. shut (sym (ap area_gate copy.file) ∙ is))))
]
  where
    closed : area_mark ++ 1 ∷ (copy_body (generation_of log.head + 1) (payloads_of log) ++ 0 ∷ []) ≡ front_of (packed log) ++ 0 ∷ []
    closed = ap (λ (l : List ℕ). area_mark ++ 1 ∷ (l ++ 0 ∷ [])) (sym (append-nil (copy_body (generation_of log.head + 1) (payloads_of log))))

pub idle_other : (log : AreaLog) (bytes : List ℕ) → IsIdle log bytes → Other (generation_of log.head) bytes ⊎ TakenCopy log bytes
idle_other log bytes (inl dead) = inl (dead_other (generation_of log.head) bytes dead)
idle_other log bytes (inr (inl older)) = inl (older_other (generation_of log.head) bytes older)
idle_other log bytes (inr (inr copy)) = copy_other log bytes copy

pub packed_payloads : (log : AreaLog) → payloads_of (packed log) ≡ payloads_of log
packed_payloads log = append-nil (payloads_of log)

pub copy_is_taken : (area : ℕ) (log : AreaLog) (current other : List ℕ) → Seen area (generation_of log.head) current → TakenCopy log other → payloads_by area current other ≡ Ok (payloads_of log)
copy_is_taken area log current other seen copy =
    other_taken area (generation_of log.head) (generation_of log.head + 1) current other seen (omega arith) copy.seen
    ∙ ap payloads_in copy.read ∙ ap (λ (l : List (List ℕ)). Ok l) (packed_payloads log)

-- ---- the laws

pub current_is_read : CurrentIsRead
current_is_read area log current other is idle =
    let seen = current_seen area log current is in
    elim (idle_other log other idle) [
      | inl loses ↦ current_taken area (generation_of log.head) current other seen loses ∙ ap payloads_in (current_read area log current is)
      | inr copy ↦ copy_is_taken area log current other seen copy
    ]

-- with its gate open, it is a log of one more
pub appended_front : (log : AreaLog) (p e : List ℕ) → front_of (appended log p) ++ e ≡ front_of log ++ 1 ∷ (frame_body p ++ e)
appended_front log p e =
    append_assoc (head_bytes log.head) (flat_map frame_bytes (log.tail ++ p ∷ [])) e
    ∙ ap (λ (l : List ℕ). head_bytes log.head ++ l) (frames_of_more log.tail)
    ∙ sym (append_assoc (head_bytes log.head) (flat_map frame_bytes log.tail) (1 ∷ (frame_body p ++ e)))
  where
    frames_of_more : (qs : List (List ℕ)) → flat_map frame_bytes (qs ++ p ∷ []) ++ e ≡ flat_map frame_bytes qs ++ 1 ∷ (frame_body p ++ e)
    frames_of_more [] = ap (λ (l : List ℕ). l ++ e) (append-nil (frame_bytes p))
    frames_of_more (q ∷ qs) =
        append_assoc (frame_bytes q) (flat_map frame_bytes (qs ++ p ∷ [])) e
        ∙ ap (λ (l : List ℕ). frame_bytes q ++ l) (frames_of_more qs)
        ∙ sym (append_assoc (frame_bytes q) (flat_map frame_bytes qs) (1 ∷ (frame_body p ++ e)))

pub appended_payloads : (log : AreaLog) (p : List ℕ) → payloads_of (appended log p) ≡ payloads_of log ++ p ∷ []
appended_payloads log p = sym (append_assoc (records_of log.head) log.tail (p ∷ []))

pub undecided_read : (area : ℕ) (log : AreaLog) (p bytes : List ℕ) → IsUndecided area log p bytes → ReadsAsEither (payloads_of log) p (payloads_in (read_area bytes))
undecided_read area log p bytes u = elim (cases_eq u.gate 1) [
  | inl opened ↦ inr (ap payloads_in (front_is_read area (appended log p) 0 [] bytes (record { head = u.valid.head; short = short_more log.tail p u.valid.short u.fits }) (omega arith)
      (u.file ∙ ap (λ (n : ℕ). front_of log ++ n ∷ (frame_body p ++ 0 ∷ [])) opened ∙ sym (appended_front log p (0 ∷ []))))
      ∙ ap (λ (l : List (List ℕ)). Ok l) (appended_payloads log p))
  | inr shut ↦ inl (ap payloads_in (front_is_read area log u.gate (frame_body p ++ 0 ∷ []) bytes u.valid shut u.file))
]

undecided_is_read : (area : ℕ) (log : AreaLog) (p current other : List ℕ) → IsUndecided area log p current → IsIdle log other → ReadsAsEither (payloads_of log) p (payloads_by area current other)
undecided_is_read area log p current other u idle =
    let seen = front_seen area log (u.gate ∷ (frame_body p ++ 0 ∷ [])) current u.valid u.file in
    elim (idle_other log other idle) [
      | inl loses ↦ subst (λ (r : Result (List (List ℕ)) ℕ). ReadsAsEither (payloads_of log) p r) (sym (current_taken area (generation_of log.head) current other seen loses)) (undecided_read area log p current u)
      | inr copy ↦ inl (copy_is_taken area log current other seen copy)
    ]

pub between_is_read : BetweenIsRead
between_is_read area log p current other (inl is) idle = inl (current_is_read area log current other is idle)
between_is_read area log p current other (inr u) idle = undecided_is_read area log p current other u idle
