-- After a crash of an opening the same is read again, where no byte is torn open.
use Rattle.std.proofs.Common.{◌≡◌, ◌≢◌, ◌⊎◌, inl, inr, ℕ, ◌+◌, ◌<◌, ◌≤◌, ◌==◌, nat_le, nat_lt, Bool, nat_eq, true, false, List, ◌∷◌, ◌++◌, length, get_or, take, drop, Ok, Err, Result, sym, ◌∙◌, ap, refl, subst, arith}
use Rattle.std.proofs.Math.Seq.{get_or-append_seam}
use Rattle.std.proofs.lemmas.Bool.{and_parts, false≢true}
use Rattle.std.proofs.lemmas.Bool.Decides.{nat_tests}
use Rattle.std.proofs.lemmas.List.{drop_more, length-take-le, take_at}
use Rattle.std.specs.Cmp.Lexicographic.{pointwise}
use Rattle.mdcc_log_file.specs.Log.{is_open}
use Rattle.mdcc_log_file.specs.Crash.{MayRepair}
use Rattle.mdcc_log_file.specs.Area.{AreaLog, area_gate, area_mark, copy_generation, front_of, generation_of, is_copy, is_log, is_second, is_torn, newer, only, payloads, payloads_in, payloads_of, read_area, read_area_taken, taken, with_gate}
use Rattle.mdcc_log.specs.Crash.{IsDead, IsLog, IsOlder}
use Rattle.mdcc_log.specs.Opening.{MayOpenAs}
use Rattle.mdcc_log.specs.Reading.{IsReadAs, EndsAtGate}
use Rattle.mdcc_log.specs.Repair.{MayClose, MaySettle, with_closed_gate}
use Rattle.mdcc_log.proofs.AreaRead.{second_no_log, shut_no_copy}
use Rattle.mdcc_log.proofs.Choice.{Other, Seen, Short, None, choice, dead_other, decided, either, first_taken, fresh_is_read, front_is_read, front_seen, older_other, second_taken}
use Rattle.mdcc_log.proofs.Idles.{gate_mark, torn_is_long}
use Rattle.mdcc_log.proofs.Keeps.{nothing_closed, same_log}
use Rattle.mdcc_log.proofs.Stands.{copy_parts}
use Rattle.mdcc_log.proofs.Takes.{differs, first_idle, newer_is, ok_is, refused, second_idle, second_is_copy, unclosed}

-- ---- gates

pub gate_at : (gate : ℕ) (bytes : List ℕ) → 8 ≤ length bytes → area_gate (with_gate gate bytes) ≡ gate
gate_at gate bytes long = ap (λ (n : ℕ). get_or (with_gate gate bytes) n 0) (sym (length-take-le 8 bytes long)) ∙ get_or-append_seam (take 8 bytes) gate (drop 9 bytes) 0

torn_parts : (bytes : List ℕ) → is_torn bytes ≡ true → (is_second bytes ≡ true) × (1 < area_gate bytes)
torn_parts bytes torn =
    let parts = and_parts (is_second bytes) (nat_lt 1 (area_gate bytes)) (and_parts (nat_lt 9 (length bytes)) _ torn).1 in
    (parts.0, above (area_gate bytes) parts.1)
  where
    above : (n : ℕ) → nat_lt 1 n ≡ true → 1 < n
    above n is = grind (arith, nat_tests)

torn_no_copy : (bytes : List ℕ) → is_torn bytes ≡ true → is_copy bytes ≡ false
torn_no_copy bytes torn = shut_no_copy bytes (λ is. omega (arith, is, (torn_parts bytes torn).1))

pub record SettledAs (area : ℕ) (log : AreaLog) (c : List ℕ) : Type 0 where
  pub seen : Seen area (generation_of log.head) c
  pub read : read_area c ≡ Ok log

read_first : (c d : List ℕ) (log : AreaLog) → taken c d ≡ Ok 0 → read_area c ≡ Ok log → payloads c d ≡ Ok (payloads_of log)
read_first c d log is read = ap (λ (t : Result ℕ ℕ). payloads_in (read_area_taken t c d)) is ∙ ap payloads_in read

read_second : (c d : List ℕ) (log : AreaLog) → taken c d ≡ Ok 1 → read_area d ≡ Ok log → payloads c d ≡ Ok (payloads_of log)
read_second c d log is read = ap (λ (t : Result ℕ ℕ). payloads_in (read_area_taken t c d)) is ∙ ap payloads_in read

module _ (tears : ℕ → Type 0) (never : tears 1 → ⊥) where
  not_one : (old becomes : ℕ) → old ≢ 1 → (becomes ≡ old) ⊎ ((becomes ≡ 0) ⊎ tears becomes) → becomes ≢ 1
  not_one old becomes apart (inl same) is = apart (sym same ∙ is)
  not_one old becomes apart (inr (inl shut)) is = omega (arith, shut, is)
  not_one old becomes apart (inr (inr torn)) is = never (subst tears is torn)

  -- ---- the area that is settled

  module _ (area : ℕ) (log : AreaLog) (bytes c : List ℕ) (was : IsReadAs log bytes) (valid : IsLog area log) where
    at_gate : (x : ℕ) (rest : List ℕ) → x ≢ 1 → c ≡ front_of log ++ x ∷ rest → SettledAs area log c
    at_gate x rest shut is = record { seen = front_seen area log (x ∷ rest) c valid is; read = front_is_read area log x rest c valid shut is }

    repaired_as : EndsAtGate log (length (front_of log)) bytes → MayRepair tears (length (front_of log)) bytes c → SettledAs area log c
    repaired_as stands (inl same) =
        record { seen = front_seen area log (drop (length (front_of log)) bytes) c valid (same ∙ stands.front); read = ap read_area same ∙ was.read }
    repaired_as stands (inr (inl change)) =
        let gate = length (front_of log) in
        let before : take gate bytes ≡ front_of log = ap (λ (l : List ℕ). take gate l) stands.front ∙ take_at (front_of log) (drop gate bytes) gate refl in
        let old : (get_or bytes gate 0 == 1) ≡ false = sym (ap is_open (drop_more bytes gate 0 stands.within)) ∙ stands.shut in
        at_gate change.becomes (drop (gate + 1) bytes) (not_one (get_or bytes gate 0) change.becomes (λ is. false≢true (sym old ∙ ap (λ (n : ℕ). n == 1) is)) change.from)
        (change.is ∙ ap (λ (l : List ℕ). l ++ change.becomes ∷ drop (gate + 1) bytes) before)
    repaired_as stands (inr (inr change)) =
        let gate = length (front_of log) in
        let before : take gate bytes ≡ front_of log = ap (λ (l : List ℕ). take gate l) stands.front ∙ take_at (front_of log) (drop gate bytes) gate refl in
        at_gate 0 change.rest (λ is. omega (arith, is)) (change.is ∙ ap (λ (l : List ℕ). l ++ 0 ∷ change.rest) before)

    pub settled_as : (length bytes ≤ 9 → area ≡ 0) → MaySettle tears (length (front_of log)) bytes c → SettledAs area log c
    settled_as first (inl short) = elim was.stands [
      | inl few ↦ record {
        seen = Short (first few.0) (ap (λ (l : AreaLog). generation_of l.head) few.1) short.1;
        read = fresh_is_read c short.1 ∙ ap (λ (l : AreaLog). let ok : Result AreaLog ℕ = Ok l in ok) (sym few.1);
      }
      | inr long ↦ absurd (omega (arith, long.0, short.0))
    ]
    settled_as first (inr long) = elim was.stands [
      | inl few ↦ absurd (omega (arith, long.0, few.0))
      | inr stands ↦ repaired_as stands.1 long.1
    ]

  -- ---- the other area

  closed_no_copy : (bytes c : List ℕ) → is_torn bytes ≡ true → MayClose tears bytes c → is_copy c ≡ false
  closed_no_copy bytes c torn (inl same) = ap is_copy same ∙ torn_no_copy bytes torn
  closed_no_copy bytes c torn (inr change) =
      let other = not_one (area_gate bytes) change.becomes (λ is. omega (arith, is, (torn_parts bytes torn).1)) change.from in
      shut_no_copy c (λ is. other (sym (gate_at change.becomes bytes (omega (arith, torn_is_long bytes torn))) ∙ sym (ap area_gate change.is) ∙ is))

  closed_no_log : (bytes c : List ℕ) → is_torn bytes ≡ true → MayClose tears bytes c → is_log c ≡ false
  closed_no_log bytes c torn (inl same) = ap is_log same ∙ second_no_log bytes (torn_parts bytes torn).0
  closed_no_log bytes c torn (inr change) =
      second_no_log c (ap is_second change.is ∙ ap (λ (l : List ℕ). pointwise nat_eq l area_mark) (gate_mark change.becomes bytes (omega (arith, torn_is_long bytes torn))) ∙ (torn_parts bytes torn).0)

  pub closed_other : (g : ℕ) (bytes c : List ℕ) → MayClose tears bytes c → IsDead (with_closed_gate bytes) ⊎ IsOlder g (with_closed_gate bytes) → Other g c
  closed_other g bytes c may idle = elim (either (is_torn bytes)) [
    | inl torn ↦ None (closed_no_copy bytes c torn may)
    | inr whole ↦ subst (Other g) (sym (nothing_closed {tears = tears} bytes c whole may)) (of_both (subst (λ (l : List ℕ). IsDead l ⊎ IsOlder g l) (unclosed bytes whole) idle))
  ]
    where
      of_both : IsDead bytes ⊎ IsOlder g bytes → Other g bytes
      of_both (inl dead) = dead_other g bytes dead
      of_both (inr older) = older_other g bytes older

  -- with the other area closed the same is taken
  second_closed : (first second c : List ℕ) → MayClose tears second c → taken first c ≡ taken first second
  second_closed first second c may = elim (either (is_torn second)) [
    | inr whole ↦ ap (λ (l : List ℕ). taken first l) (nothing_closed {tears = tears} second c whole may)
    | inl torn ↦
        decided first c false (is_log first) (is_copy first) (nat_le (length first) 9) (copy_generation first) (copy_generation c) (closed_no_copy second c torn may) refl refl refl refl refl
        ∙ sym (decided first second false (is_log first) (is_copy first) (nat_le (length first) 9) (copy_generation first) (copy_generation second) (torn_no_copy second torn) refl refl refl refl refl)
  ]

  first_closed : (first second c : List ℕ) → is_copy second ≡ true → MayClose tears first c → taken c second ≡ taken first second
  first_closed first second c copy may = elim (either (is_torn first)) [
    | inr whole ↦ ap (λ (l : List ℕ). taken l second) (nothing_closed {tears = tears} first c whole may)
    | inl torn ↦
        decided c second true false false _ _ _ copy (closed_no_log first c torn may) (closed_no_copy first c torn may) refl refl refl
        ∙ sym (decided first second true false false _ _ _ copy (second_no_log first (torn_parts first torn).0) (torn_no_copy first torn) refl refl refl)
  ]

  -- ---- both

  pub second_may : (first second d : List ℕ) → taken first second ≡ Ok 0 → MayOpenAs tears 1 (taken first second) second d → MayClose tears second d
  second_may first second d is (inl same) = inl same
  second_may first second d is (inr (inl take')) = absurd (differs 0 1 (λ same. omega (arith, same)) (sym is ∙ take'.0))
  second_may first second d is (inr (inr close)) = close.1.1.1

  pub first_may : (first second c : List ℕ) → taken first second ≡ Ok 1 → MayOpenAs tears 0 (taken first second) first c → MayClose tears first c
  first_may first second c is (inl same) = inl same
  first_may first second c is (inr (inl take')) = absurd (differs 1 0 (λ same. omega (arith, same)) (sym is ∙ take'.0))
  first_may first second c is (inr (inr close)) = close.1.1.1

  first_again : (first second c d : List ℕ) (log : AreaLog) → taken first second ≡ Ok 0 → read_area first ≡ Ok log → MayOpenAs tears 0 (taken first second) first c → MayClose tears second d → payloads c d ≡ Ok (payloads_of log)
  first_again first second c d log is read (inl same) other =
      read_first c d log (ap (λ (l : List ℕ). taken l d) same ∙ second_closed first second d other ∙ is) (ap read_area same ∙ read)
  first_again first second c d log is read (inr (inl (choice', inl same))) other =
      read_first c d log (ap (λ (l : List ℕ). taken l d) same ∙ second_closed first second d other ∙ is) (ap read_area same ∙ read)
  first_again first second c d log is read (inr (inl (choice', inr change))) other =
      let found = change.0 in
      let was : IsReadAs found first = change.1.0 in
      let now = settled_as 0 found first c was (was.valid 0 (λ none. refl)) (λ few. refl) change.1.1 in
      let loses = closed_other (generation_of found.head) second d other (second_idle first second (generation_of found.head) is was.numbered) in
      read_first c d found (first_taken c d (generation_of found.head) now.seen loses) now.read
      ∙ ap (λ (l : AreaLog). let ok : Result (List (List ℕ)) ℕ = Ok (payloads_of l) in ok) (same_log found log first was.read read)
  first_again first second c d log is read (inr (inr close)) other = absurd (close.1.1.0 (ok_is close.0 0 (sym close.1.0 ∙ is)))

  second_again : (first second c d : List ℕ) (log : AreaLog) → taken first second ≡ Ok 1 → read_area second ≡ Ok log → MayClose tears first c → MayOpenAs tears 1 (taken first second) second d → payloads c d ≡ Ok (payloads_of log)
  second_again first second c d log is read other (inl same) =
      read_second c d log (ap (λ (l : List ℕ). taken c l) same ∙ first_closed first second c (second_is_copy first second is) other ∙ is) (ap read_area same ∙ read)
  second_again first second c d log is read other (inr (inl (choice', inl same))) =
      read_second c d log (ap (λ (l : List ℕ). taken c l) same ∙ first_closed first second c (second_is_copy first second is) other ∙ is) (ap read_area same ∙ read)
  second_again first second c d log is read other (inr (inl (choice', inr change))) =
      let found = change.0 in
      let was : IsReadAs found second = change.1.0 in
      let copy = second_is_copy first second is in
      let long = (copy_parts second copy).0 in
      let now = settled_as 1 found second d was (was.valid 1 (λ none. absurd (false≢true (sym none ∙ copy)))) (λ few. absurd (omega (arith, few, long))) change.1.1 in
      let loses = closed_other (generation_of found.head) first c other (first_idle first second (generation_of found.head) is was.numbered) in
      read_second c d found (second_taken c d 1 (generation_of found.head) (omega arith) now.seen loses) now.read
      ∙ ap (λ (l : AreaLog). let ok : Result (List (List ℕ)) ℕ = Ok (payloads_of l) in ok) (same_log found log second was.read read)
  second_again first second c d log is read other (inr (inr close)) = absurd (close.1.1.0 (ok_is close.0 1 (sym close.1.0 ∙ is)))

-- ---- which is taken

newer_range : (r s : Result ℕ ℕ) (a : ℕ) → newer r s ≡ Ok a → (a ≡ 0) ⊎ (a ≡ 1)
newer_range r s a is = elim (newer_is r s a is).order [
  | inl below ↦ inl below.0
  | inr above ↦ inr above.0
]

only_range : (area a : ℕ) (r : Result ℕ ℕ) → only area r ≡ Ok a → area ≡ a
only_range area a (Ok g) is = ok_is area a is
only_range area a (Err n) is = absurd (refused n a is)

choice_range : (copy2 log1 copy1 short1 : Bool) (gen1 gen2 : Result ℕ ℕ) (a : ℕ) → choice copy2 log1 copy1 short1 gen1 gen2 ≡ Ok a → (a ≡ 0) ⊎ (a ≡ 1)
choice_range true true copy1 short1 gen1 gen2 a is = newer_range (Ok 0) gen2 a is
choice_range true false true short1 gen1 gen2 a is = newer_range gen1 gen2 a is
choice_range true false false short1 gen1 gen2 a is = inr (sym (only_range 1 a gen2 is))
choice_range false true copy1 short1 gen1 gen2 a is = inl (sym (ok_is 0 a is))
choice_range false false true short1 gen1 gen2 a is = inl (sym (only_range 0 a gen1 is))
choice_range false false false true gen1 gen2 a is = inl (sym (ok_is 0 a is))
choice_range false false false false gen1 gen2 a is = absurd (refused 0 a is)

record Took (first second : List ℕ) (ps : List (List ℕ)) : Type 0 where
  pub log : AreaLog
  pub all : payloads_of log ≡ ps
  pub which : ((taken first second ≡ Ok 0) × (read_area first ≡ Ok log)) ⊎ ((taken first second ≡ Ok 1) × (read_area second ≡ Ok log))

took : (first second : List ℕ) (ps : List (List ℕ)) → payloads first second ≡ Ok ps → Took first second ps
took first second ps is = by_choice (taken first second) refl
  where
    read_ok : (r : Result AreaLog ℕ) → payloads_in r ≡ Ok ps → (log : AreaLog) × ((r ≡ Ok log) × (payloads_of log ≡ ps))
    read_ok (Ok log) e = (log, (refl, inner (payloads_of log) e))
      where
        inner : (qs : List (List ℕ)) → (let ok : Result (List (List ℕ)) ℕ = Ok qs in ok) ≡ Ok ps → qs ≡ ps
        inner qs e' = cc
    read_ok (Err n) e = absurd (broken e)
      where
        broken : (let err : Result (List (List ℕ)) ℕ = Err n in err) ≡ Ok ps → ⊥
        broken e' = cc

    by_choice : (t : Result ℕ ℕ) → taken first second ≡ t → Took first second ps
    by_choice (Ok a) same = elim (choice_range (is_copy second) (is_log first) (is_copy first) (nat_le (length first) 9) (copy_generation first) (copy_generation second) a same) [
      | inl zero_is ↦
          let choice' : taken first second ≡ Ok 0 = same ∙ ap (λ (n : ℕ). let ok : Result ℕ ℕ = Ok n in ok) zero_is in
          let read = read_ok (read_area first) (sym (ap (λ (r : Result ℕ ℕ). payloads_in (read_area_taken r first second)) choice') ∙ is) in
          record { log = read.0; all = read.1.1; which = inl (choice', read.1.0) }
      | inr one_is ↦
          let choice' : taken first second ≡ Ok 1 = same ∙ ap (λ (n : ℕ). let ok : Result ℕ ℕ = Ok n in ok) one_is in
          let read = read_ok (read_area second) (sym (ap (λ (r : Result ℕ ℕ). payloads_in (read_area_taken r first second)) choice') ∙ is) in
          record { log = read.0; all = read.1.1; which = inr (choice', read.1.0) }
    ]
    by_choice (Err n) same = absurd (broken (sym (ap (λ (r : Result ℕ ℕ). payloads_in (read_area_taken r first second)) same) ∙ is))
      where
        broken : (let err : Result (List (List ℕ)) ℕ = Err n in err) ≡ Ok ps → ⊥
        broken e' = cc

pub read_again : {tears : ℕ → Type 0} → (tears 1 → ⊥) → (first second c d : List ℕ) (ps : List (List ℕ)) → payloads first second ≡ Ok ps → MayOpenAs tears 0 (taken first second) first c → MayOpenAs tears 1 (taken first second) second d → payloads c d ≡ Ok ps
read_again {tears} never first second c d ps is may_first may_second =
    let t = took first second ps is in
    elim t.which [
      | inl zero ↦ first_again tears never first second c d t.log zero.0 zero.1 may_first (second_may tears never first second d zero.0 may_second) ∙ ap (λ (l : List (List ℕ)). let ok : Result (List (List ℕ)) ℕ = Ok l in ok) t.all
      | inr one ↦ second_again tears never first second c d t.log one.0 one.1 (first_may tears never first second c one.0 may_first) may_second ∙ ap (λ (l : List (List ℕ)). let ok : Result (List (List ℕ)) ℕ = Ok l in ok) t.all
    ]
