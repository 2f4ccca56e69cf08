-- What is read after a crash of an opening, or of an append that follows it.
use Rattle.std.proofs.Common.{◌≡◌, ◌⊎◌, inl, inr, ℕ, zero, suc, ◌+◌, ◌<◌, ◌≤◌, ◌==◌, ◌&&◌, nat_le, nat_lt, Bool, cond, true, false, List, [], ◌∷◌, ◌++◌, length, drop, Ok, Err, Result, sym, ◌∙◌, ap, refl, subst, arith}
use Rattle.std.proofs.lemmas.Bool.{and_parts, false≢true}
use Rattle.std.proofs.lemmas.Bool.Decides.{nat_tests}
use Rattle.mdcc_log_file.specs.Log.{frames_from}
use Rattle.mdcc_log_file.specs.Area.{AreaLog, Head, area_gate, copy_generation, count_in, fresh, generation_of, is_copy, is_first, is_record, is_second, log_from, next_record, payloads_in, payloads_of, read_area, read_area_taken, read_copy, record_length, record_of, tail_from, taken, with_tail}
use Rattle.mdcc_log_file.specs.Area.Head.{Version1, Version2}
use Rattle.mdcc_log.specs.AtRest.{MayBeDue}
use Rattle.mdcc_log.specs.Crash.{IsHead, IsIdle, IsLog, ReadsAsEither, payloads_by}
use Rattle.mdcc_log.specs.Frames.{appended}
use Rattle.mdcc_log.specs.Kept.{ThenIsRead}
use Rattle.mdcc_log.specs.Opening.{MayOpenAs}
use Rattle.mdcc_log.specs.Reading.{IsReadAs}
use Rattle.mdcc_log.proofs.Again.{SettledAs, closed_other, first_may, second_may, settled_as}
use Rattle.mdcc_log.proofs.AreaRead.{is_log_from, second_no_log, short_no_copy}
use Rattle.mdcc_log.proofs.Choice.{First, Other, Second, Seen, Short, appended_payloads, copy_is_taken, current_read, current_seen, current_taken, either, idle_other}
use Rattle.mdcc_log.proofs.Dues.{between_read, mixed_read}
use Rattle.mdcc_log.proofs.Keeps.{same_log}
use Rattle.mdcc_log.proofs.OpenStays.{between_seen}
use Rattle.mdcc_log.proofs.Stands.{copy_parts}
use Rattle.mdcc_log.proofs.Takes.{first_idle, ok_is, second_idle, second_is_copy}

-- ---- what the choice sees of an area that is read

ok_same : (one two : AreaLog) → (let ok : Result AreaLog ℕ = Ok one in ok) ≡ Ok two → one ≡ two
ok_same one two e = cc

err_none : (n : ℕ) (log : AreaLog) → (let err : Result AreaLog ℕ = Err n in err) ≡ Ok log → ⊥
err_none n log e = cc

tail_head : (head : Head) (r : Result (List (List ℕ)) ℕ) (log : AreaLog) → with_tail head r ≡ Ok log → head ≡ log.head
tail_head head (Ok tail) log e = ap (λ (l : AreaLog). l.head) (ok_same (record { head = head; tail = tail }) log e)
tail_head head (Err n) log e = absurd (err_none n log e)

copy_head : (g : ℕ) (rs : List (List ℕ)) (left offset : ℕ) (rest : List ℕ) (log : AreaLog) → log_from g rs left offset rest ≡ Ok log → (more : List (List ℕ)) × (Version2 g more ≡ log.head)
copy_head g rs zero offset rest log e = (rs, tail_head (Version2 g rs) (tail_from offset rest) log e)
copy_head g rs (suc left) offset rest log e = elim (either (is_record rest)) [
  | inl whole ↦ copy_head g (rs ++ record_of rest ∷ []) left (offset + (4 + record_length rest)) (next_record rest) log (sym (ap (λ (b : Bool). by b) whole) ∙ e)
  | inr none ↦ absurd (err_none offset log (sym (ap (λ (b : Bool). by b) none) ∙ e))
]
  where
    by : Bool → Result AreaLog ℕ
    by b = cond b (log_from g (rs ++ record_of rest ∷ []) left (offset + (4 + record_length rest)) (next_record rest)) (Err offset)

few_of : (n : ℕ) → nat_le n 9 ≡ true → n ≤ 9
few_of n is = grind (arith, nat_tests)

many_of : (n : ℕ) → nat_le n 9 ≡ false → 9 < n
many_of n is = grind (arith, nat_tests)

marked_of : (bytes : List ℕ) → is_copy bytes ≡ true → is_second bytes ≡ true
marked_of bytes copy = (and_parts (is_second bytes) (area_gate bytes == 1) (and_parts (nat_lt 9 (length bytes)) (is_second bytes && area_gate bytes == 1) copy).1).0

module _ (area : ℕ) (log : AreaLog) (bytes : List ℕ) (valid : IsLog area log) where
  at_zero : Version1 ≡ log.head → area ≡ 0
  at_zero is = subst (IsHead area) (sym is) valid.head

  first_generation : Version1 ≡ log.head → generation_of log.head ≡ 0
  first_generation is = sym (ap generation_of is)

  copy_seen : (r : Result ℕ ℕ) → is_copy bytes ≡ true → copy_generation bytes ≡ r → read_copy r bytes ≡ Ok log → Seen area (generation_of log.head) bytes
  copy_seen (Ok g) copy same read =
      let is = copy_head g [] (count_in bytes) 25 (drop 25 bytes) log read in
      let some : 0 < g = (subst (IsHead area) (sym is.1) valid.head).0 in
      subst (λ (n : ℕ). Seen area n bytes) (ap generation_of is.1) (Second some (record { copy = copy; not_log = second_no_log bytes (marked_of bytes copy); generation = same }))
  copy_seen (Err n) copy same read = absurd (err_none n log read)

  by : Bool → Bool → Bool → Result AreaLog ℕ
  by short first copy = cond short (Ok fresh) (cond first (with_tail Version1 (frames_from (length bytes) 8 (drop 8 bytes))) (cond copy (read_copy (copy_generation bytes) bytes) (Err 0)))

  read_seen : read_area bytes ≡ Ok log → Seen area (generation_of log.head) bytes
  unfolding by
  read_seen read = elim (either (nat_le (length bytes) 9)) [
    | inl short ↦
        let is : Version1 ≡ log.head = ap (λ (l : AreaLog). l.head) (ok_same fresh log (sym (ap (λ (b : Bool). by b (is_first bytes) (is_copy bytes)) short) ∙ read)) in
        Short (at_zero is) (first_generation is) (few_of (length bytes) short)
    | inr long ↦
        let more : by false (is_first bytes) (is_copy bytes) ≡ Ok log = sym (ap (λ (b : Bool). by b (is_first bytes) (is_copy bytes)) long) ∙ read in
        elim (either (is_first bytes)) [
          | inl marked ↦
              let is : Version1 ≡ log.head = tail_head Version1 (frames_from (length bytes) 8 (drop 8 bytes)) log (sym (ap (λ (b : Bool). by false b (is_copy bytes)) marked) ∙ more) in
              First (at_zero is) (first_generation is) (is_log_from bytes (many_of (length bytes) long) marked)
          | inr other ↦
              let last : by false false (is_copy bytes) ≡ Ok log = sym (ap (λ (b : Bool). by false b (is_copy bytes)) other) ∙ more in
              elim (either (is_copy bytes)) [
                | inl copy ↦ copy_seen (copy_generation bytes) copy refl (sym (ap (λ (b : Bool). by false false b) copy) ∙ last)
                | inr none ↦ absurd (err_none 0 log (sym (ap (λ (b : Bool). by false false b) none) ∙ last))
              ]
        ]
  ]

seen_numbered : (area g : ℕ) (bytes : List ℕ) → Seen area g bytes → is_copy bytes ≡ true → copy_generation bytes ≡ Ok g
seen_numbered area g bytes (Short at zero_is few) copy = absurd (false≢true (sym (short_no_copy bytes few) ∙ copy))
seen_numbered area g bytes (First at zero_is log) copy = absurd (false≢true (sym (second_no_log bytes (marked_of bytes copy)) ∙ log))
seen_numbered area g bytes (Second some seen) copy = seen.generation

-- ---- both areas, each at a moment of its own

abbrev ok_of : List (List ℕ) → Result (List (List ℕ)) ℕ
ok_of l = Ok l

module _ (area : ℕ) (log : AreaLog) (p current other : List ℕ) where
  more_ok : ok_of (payloads_of (appended log p)) ≡ ok_of (payloads_of log ++ p ∷ [])
  more_ok = ap ok_of (appended_payloads log p)

  due_beside : MayBeDue area log p current → Other (generation_of log.head) other → ReadsAsEither (payloads_of log) p (payloads_by area current other)
  due_beside (inl is) loses =
      subst (λ (r : Result (List (List ℕ)) ℕ). ReadsAsEither (payloads_of log) p r) (sym (current_taken area (generation_of log.head) current other (between_seen area log p current is) loses)) (between_read area log p current is)
  due_beside (inr is) loses =
      inr (current_taken area (generation_of log.head) current other (current_seen area (appended log p) current is) loses ∙ ap payloads_in (current_read area (appended log p) current is) ∙ more_ok)

  settled_beside : SettledAs area log current → Other (generation_of log.head) other ⊎ IsIdle (appended log p) other → ReadsAsEither (payloads_of log) p (payloads_by area current other)
  settled_beside is (inl loses) = inl (current_taken area (generation_of log.head) current other is.seen loses ∙ ap payloads_in is.read)
  settled_beside is (inr idle) = elim (idle_other (appended log p) other idle) [
    | inl loses ↦ inl (current_taken area (generation_of log.head) current other is.seen loses ∙ ap payloads_in is.read)
    | inr copy ↦ inr (copy_is_taken area (appended log p) current other is.seen copy ∙ more_ok)
  ]

  either_read : SettledAs area log current ⊎ MayBeDue area log p current → Other (generation_of log.head) other ⊎ IsIdle (appended log p) other → ReadsAsEither (payloads_of log) p (payloads_by area current other)
  either_read (inl is) beside = settled_beside is beside
  either_read (inr due) (inl loses) = due_beside due loses
  either_read (inr due) (inr idle) = mixed_read area log p current other due idle

module _ (tears : ℕ → Type 0) (never : tears 1 → ⊥) (first second : List ℕ) (log : AreaLog) where
  module _ (c : List ℕ) (is : taken first second ≡ Ok 0) (read : read_area first ≡ Ok log) (valid : IsLog 0 log) where
    was_first : c ≡ first → SettledAs 0 log c
    was_first same = subst (SettledAs 0 log) (sym same) (record { seen = read_seen 0 log first valid read; read = read })

    first_settled : MayOpenAs tears 0 (taken first second) first c → SettledAs 0 log c
    first_settled (inl same) = was_first same
    first_settled (inr (inl (choice', inl same))) = was_first same
    first_settled (inr (inl (choice', inr change))) =
        let was : IsReadAs change.0 first = change.1.0 in
        subst (λ (l : AreaLog). SettledAs 0 l c) (same_log change.0 log first was.read read)
        (settled_as tears never 0 change.0 first c was (was.valid 0 (λ none. refl)) (λ few. refl) change.1.1)
    first_settled (inr (inr close)) = absurd (close.1.1.0 (ok_is close.0 0 (sym close.1.0 ∙ is)))

    second_beside : (d : List ℕ) → MayOpenAs tears 1 (taken first second) second d → Other (generation_of log.head) d
    second_beside d may =
        closed_other tears never (generation_of log.head) second d (second_may tears never first second d is may)
        (second_idle first second (generation_of log.head) is (seen_numbered 0 (generation_of log.head) first (read_seen 0 log first valid read)))

  module _ (d : List ℕ) (is : taken first second ≡ Ok 1) (read : read_area second ≡ Ok log) (valid : IsLog 1 log) where
    was_second : d ≡ second → SettledAs 1 log d
    was_second same = subst (SettledAs 1 log) (sym same) (record { seen = read_seen 1 log second valid read; read = read })

    second_settled : MayOpenAs tears 1 (taken first second) second d → SettledAs 1 log d
    second_settled (inl same) = was_second same
    second_settled (inr (inl (choice', inl same))) = was_second same
    second_settled (inr (inl (choice', inr change))) =
        let was : IsReadAs change.0 second = change.1.0 in
        let copy = second_is_copy first second is in
        let long = (copy_parts second copy).0 in
        subst (λ (l : AreaLog). SettledAs 1 l d) (same_log change.0 log second was.read read)
        (settled_as tears never 1 change.0 second d was (was.valid 1 (λ none. absurd (false≢true (sym none ∙ copy)))) (λ few. absurd (omega (arith, few, long))) change.1.1)
    second_settled (inr (inr close)) = absurd (close.1.1.0 (ok_is close.0 1 (sym close.1.0 ∙ is)))

    first_beside : (c : List ℕ) → MayOpenAs tears 0 (taken first second) first c → Other (generation_of log.head) c
    first_beside c may =
        closed_other tears never (generation_of log.head) first c (first_may tears never first second c is may)
        (first_idle first second (generation_of log.head) is (seen_numbered 1 (generation_of log.head) second (read_seen 1 log second valid read)))

map_left : {A B C : Type 0} → (A → B) → A ⊎ C → B ⊎ C
map_left f (inl a) = inl (f a)
map_left f (inr b) = inr b

pub then_is_read : ThenIsRead
then_is_read tears never first second zero log p current other range is reads valid may may_other =
    let read : read_area first ≡ Ok log = sym (ap (λ (t : Result ℕ ℕ). read_area_taken t first second) is) ∙ reads in
    either_read 0 log p current other (map_left (first_settled tears never first second log current is read valid) may) (map_left (second_beside tears never first second log current is read valid other) may_other)
then_is_read tears never first second (suc zero) log p current other range is reads valid may may_other =
    let read : read_area second ≡ Ok log = sym (ap (λ (t : Result ℕ ℕ). read_area_taken t first second) is) ∙ reads in
    either_read 1 log p current other (map_left (second_settled tears never first second log current is read valid) may) (map_left (first_beside tears never first second log current is read valid other) may_other)
then_is_read tears never first second (suc (suc n)) log p current other range is reads valid may may_other = absurd (omega (arith, range))
