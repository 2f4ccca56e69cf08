-- What a crash at any moment of a start leaves of the two areas.
use Rattle.std.proofs.Common.{◌≡◌, ◌⊎◌, inl, inr, ⊎_elim, ℕ, ◌+◌, ◌≤◌, List, [], Ok, Result, refl, ◌∙◌, ap, subst, arith}
use Rattle.std.specs.Prelude.{IsTrue}
use Rattle.mdcc_disks.specs.Disks.{Disk, LeavesOnly, Only}
use Rattle.mdcc_log_file.proofs.Moments.{both}
use Rattle.mdcc_log.proofs.Choice.{Other, Seen, current_read, current_seen, dead_other, first_taken, older_other, second_taken}
use Rattle.mdcc_log.proofs.Dues.{mixed_read}
use Rattle.mdcc_log.proofs.Followed.{then_is_read}
use Rattle.mdcc_log_file.specs.Area.{AreaLog, generation_of, payloads, payloads_of, read_area, read_area_taken, read_areas, taken}
use Rattle.mdcc_log.specs.AtRest.{IsAtRest, MayBeDue}
use Rattle.mdcc_log.specs.Crash.{IsCurrent, IsDead, IsIdle, IsLog, IsOlder, ReadsAsEither, payloads_by}
use Rattle.mdcc_log.specs.Frames.{OpenAreas, appended, other_of, place_of}
use Rattle.mdcc_log.specs.Opening.{MayOpenAs}
use Rattle.mdcc_def_messages.specs.Spelling.{fact_bytes, encodings_of}
use Rattle.mdcc_def_messages.specs.declared.facts.Fact.{Fact}
use Rattle.mdcc_node_log.proofs.Places.{by_places, from_places, of_both}
use Rattle.mdcc_node_log.specs.Struck.{IsLeft, IsStruck, LeavesBoot, LeavesStruck}
use Rattle.mdcc_def_rules.specs.Boot.{next_boot}

-- ---- which area is taken

pub idle_loses : (g : ℕ) (bytes : List ℕ) → IsDead bytes ⊎ IsOlder g bytes → Other g bytes
idle_loses g bytes (inl dead) = dead_other g bytes dead
idle_loses g bytes (inr older) = older_other g bytes older

-- Of these two areas this one is taken, and this log read.
pub record IsRead (first second : List ℕ) (area : ℕ) (log : AreaLog) : Type 0 where
  pub choice : taken first second ≡ Ok area
  pub log_is : read_areas first second ≡ Ok log

-- the area that is seen, beside one that is not taken
pub seen_first : (first second : List ℕ) (log : AreaLog) → Seen 0 (generation_of log.head) first → Other (generation_of log.head) second → read_area first ≡ Ok log → IsRead first second 0 log
seen_first first second log seen loses read =
    let choice = first_taken first second (generation_of log.head) seen loses in
    record { choice = choice; log_is = ap (λ (t : Result ℕ ℕ). read_area_taken t first second) choice ∙ read }

pub seen_second : (first second : List ℕ) (log : AreaLog) → Seen 1 (generation_of log.head) second → Other (generation_of log.head) first → read_area second ≡ Ok log → IsRead first second 1 log
seen_second first second log seen loses read =
    let choice = second_taken first second 1 (generation_of log.head) (omega arith) seen loses in
    record { choice = choice; log_is = ap (λ (t : Result ℕ ℕ). read_area_taken t first second) choice ∙ read }

left_first : (first second : List ℕ) (log : AreaLog) → IsCurrent 0 log first → IsDead second ⊎ IsOlder (generation_of log.head) second → IsRead first second 0 log
left_first first second log is idle =
    seen_first first second log (current_seen 0 log first is) (idle_loses (generation_of log.head) second idle) (current_read 0 log first is)

left_second : (first second : List ℕ) (log : AreaLog) → IsCurrent 1 log second → IsDead first ⊎ IsOlder (generation_of log.head) first → IsRead first second 1 log
left_second first second log is idle =
    seen_second first second log (current_seen 1 log second is) (idle_loses (generation_of log.head) first idle) (current_read 1 log second is)

module _ {D : Type 0} (disk : D → ℕ → Disk) (may_leave : D → ℕ → List ℕ → Type 0) where
  -- that which a crash left in use
  pub left_read : (as_read : (disks : D) (p : ℕ) → IsTrue (disk disks p).told → may_leave disks p (disk disks p).bytes) (old : D) (centre area : ℕ) (log : AreaLog)
      → IsTrue (disk old centre).told → IsTrue (disk old (centre + 16)).told → IsLeft (may_leave old) centre area log
      → IsRead (disk old centre).bytes (disk old (centre + 16)).bytes area log
  left_read as_read old centre area log told told_other left =
      let here = of_both (λ p q. IsTrue (disk old p).told) centre told told_other area left.range in
      let there = of_both (λ p q. IsTrue (disk old q).told) centre told_other told area left.range in
      by_places (λ n p q. IsCurrent n log (disk old p).bytes → IsDead (disk old q).bytes ⊎ IsOlder (generation_of log.head) (disk old q).bytes
      → IsRead (disk old centre).bytes (disk old (centre + 16)).bytes n log) centre
      (left_first (disk old centre).bytes (disk old (centre + 16)).bytes log) (left_second (disk old centre).bytes (disk old (centre + 16)).bytes log) area left.range
      (left.current (disk old (place_of centre area)).bytes (as_read old (place_of centre area) here))
      (left.other (disk old (place_of centre (other_of area))).bytes (as_read old (place_of centre (other_of area)) there))

  -- that which is at rest
  pub rest_areas : (new : D) (frames : OpenAreas) (me : ℕ) (all : List (List ℕ)) → frames.centre ≡ me → (rest : IsAtRest disk may_leave new frames all)
      → IsRead (disk new me).bytes (disk new (me + 16)).bytes frames.area rest.log
  rest_areas new frames me all is rest =
      subst (λ (m : ℕ). IsRead (disk new m).bytes (disk new (m + 16)).bytes frames.area rest.log) is
      (by_places (λ n p q. IsCurrent n rest.log (disk new p).bytes → IsDead (disk new q).bytes ⊎ IsOlder (generation_of rest.log.head) (disk new q).bytes
      → IsRead (disk new frames.centre).bytes (disk new (frames.centre + 16)).bytes n rest.log) frames.centre
      (left_first (disk new frames.centre).bytes (disk new (frames.centre + 16)).bytes rest.log) (left_second (disk new frames.centre).bytes (disk new (frames.centre + 16)).bytes rest.log) frames.area rest.range
      (record { valid = rest.in_use.valid; file = inr ([], rest.in_use.file) })
      (subst (λ (n : ℕ). IsDead (disk new (place_of frames.centre (other_of frames.area))).bytes ⊎ IsOlder n (disk new (place_of frames.centre (other_of frames.area))).bytes) rest.in_use.generation rest.spare.idle))

  -- or of what a crash of an append left
  pub struck_read : (as_read : (disks : D) (p : ℕ) → IsTrue (disk disks p).told → may_leave disks p (disk disks p).bytes) (old : D) (centre area : ℕ) (log : AreaLog) (facts : List Fact) (payload : List ℕ)
      → IsTrue (disk old centre).told → IsTrue (disk old (centre + 16)).told → IsStruck (may_leave old) centre area log payload → payloads_of log ≡ encodings_of facts
      → ReadsAsEither (encodings_of facts) payload (payloads (disk old centre).bytes (disk old (centre + 16)).bytes)
  struck_read as_read old centre area log facts payload told told_other struck is =
      let here = of_both (λ p q. IsTrue (disk old p).told) centre told told_other area struck.range in
      let there = of_both (λ p q. IsTrue (disk old q).told) centre told_other told area struck.range in
      subst (λ (ps : List (List ℕ)). ReadsAsEither ps payload (payloads (disk old centre).bytes (disk old (centre + 16)).bytes)) is
      (from_places (λ n p q. ReadsAsEither (payloads_of log) payload (payloads_by n (disk old p).bytes (disk old q).bytes))
      (ReadsAsEither (payloads_of log) payload (payloads (disk old centre).bytes (disk old (centre + 16)).bytes)) centre (λ h. h) (λ h. h) area struck.range
      (mixed_read area log payload (disk old (place_of centre area)).bytes (disk old (place_of centre (other_of area))).bytes
      (struck.current (disk old (place_of centre area)).bytes (as_read old (place_of centre area) here))
      (struck.other (disk old (place_of centre (other_of area))).bytes (as_read old (place_of centre (other_of area)) there))))

-- one area is taken
pub same_area : (one two : ℕ) → (let ok : Result ℕ ℕ = Ok one in ok) ≡ Ok two → one ≡ two
same_area one two e = cc

-- what a crash leaves so may be the start of an append
pub left_struck : (may_leave : ℕ → List ℕ → Type 0) (centre area : ℕ) (log : AreaLog) (payload : List ℕ) → IsLeft may_leave centre area log → IsStruck may_leave centre area log payload
left_struck may_leave centre area log payload left = record {
  range = left.range;
  current = λ c now. inl (inl (left.current c now));
  other = λ c now. ⊎_elim (λ dead. inl dead) (λ older. inr (inl older)) (left.other c now);
}

-- ---- at any moment

module _ {D : Type 0} (moment : D → ℕ) (left_since : D → ℕ → ℕ → List ℕ → Type 0) where
  pub struck_as : (mid new : D) (centre area centre' area' : ℕ) (log log' : AreaLog) (payload payload' : List ℕ) → centre' ≡ centre → area' ≡ area → log' ≡ log → payload' ≡ payload
      → LeavesOnly moment left_since mid new (place_of centre' area') (MayBeDue area' log' payload')
      → LeavesOnly moment left_since mid new (place_of centre' (other_of area')) (IsIdle (appended log' payload'))
      → LeavesStruck moment left_since mid new centre area log payload
  struck_as mid new centre area centre' area' log log' payload payload' centre_is area_is log_is payload_is current other =
      subst (λ (n : ℕ). LeavesStruck moment left_since mid new n area log payload) centre_is
      (subst (λ (n : ℕ). LeavesStruck moment left_since mid new centre' n log payload) area_is
      (subst (λ (l : AreaLog). LeavesStruck moment left_since mid new centre' area' l payload) log_is
      (subst (λ (p : List ℕ). LeavesStruck moment left_since mid new centre' area' log' p) payload_is
      (record { current = current; other = other }))))

  pub struck_joined : (old mid new : D) (centre area : ℕ) (log : AreaLog) (payload : List ℕ) → LeavesStruck moment left_since old mid centre area log payload → LeavesStruck moment left_since mid new centre area log payload
      → LeavesStruck moment left_since old new centre area log payload
  struck_joined old mid new centre area log payload first second = record { current = both first.current second.current; other = both first.other second.other }

  -- while the next boot is appended
  pub boot_leaves : (mid new : D) (centre centre' area : ℕ) (log : AreaLog) (facts : List Fact) (payload : List ℕ) → centre' ≡ centre → area ≤ 1 → payloads_of log ≡ encodings_of facts → payload ≡ fact_bytes (next_boot facts)
      → LeavesOnly moment left_since mid new (place_of centre' area) (MayBeDue area log payload)
      → LeavesOnly moment left_since mid new (place_of centre' (other_of area)) (IsIdle (appended log payload))
      → LeavesBoot moment left_since mid new centre facts
  boot_leaves mid new centre centre' area log facts payload centre_is range payloads_are bytes current other = record {
    area = area;
    log = log;
    range = range;
    payloads_are = payloads_are;
    struck = struck_as mid new centre area centre' area log log (fact_bytes (next_boot facts)) payload centre_is refl refl bytes current other;
  }

  -- ---- where no byte is torn to 1

  module _ (tears : ℕ → Type 0) (never : tears 1 → ⊥) (first second : List ℕ) (log : AreaLog) (payload : List ℕ) (log_is : read_areas first second ≡ Ok log) where
    by_first : (current other : List ℕ) → taken first second ≡ Ok 0 → IsLog 0 log
        → MayOpenAs tears 0 (taken first second) first current ⊎ MayBeDue 0 log payload current
        → MayOpenAs tears 1 (taken first second) second other ⊎ IsIdle (appended log payload) other → ReadsAsEither (payloads_of log) payload (payloads current other)
    by_first current other choice valid here there = then_is_read tears never first second 0 log payload current other (omega arith) choice log_is valid here there

    by_second : (current other : List ℕ) → taken first second ≡ Ok 1 → IsLog 1 log
        → MayOpenAs tears 1 (taken first second) second other ⊎ MayBeDue 1 log payload other
        → MayOpenAs tears 0 (taken first second) first current ⊎ IsIdle (appended log payload) current → ReadsAsEither (payloads_of log) payload (payloads current other)
    by_second current other choice valid here there = then_is_read tears never first second 1 log payload other current (omega arith) choice log_is valid here there

    -- what was left before or while the log was opened, or else since
    since : (may_leave Q : List ℕ → Type 0) (bytes : List ℕ) (old mid new : D) (place which : ℕ) → Only bytes may_leave
        → LeavesOnly moment left_since old mid place (λ c. may_leave c ⊎ MayOpenAs tears which (taken first second) bytes c) → LeavesOnly moment left_since mid new place Q
        → (c : List ℕ) → left_since new place (moment old) c → MayOpenAs tears which (taken first second) bytes c ⊎ Q c
    since may_leave Q bytes old mid new place which only opening later c left =
        ⊎_elim (λ before. inl (⊎_elim (λ was. inl (only c was)) (λ opens. opens) (opening.each c before))) (λ after. inr after) (later.before (moment old) c opening.later left)

    pub same_read : (may_leave may_leave_other : List ℕ → Type 0) (old mid new : D) (centre area : ℕ) → area ≤ 1 → taken first second ≡ Ok area → IsLog area log
        → Only first may_leave → Only second may_leave_other
        → LeavesOnly moment left_since old mid centre (λ c. may_leave c ⊎ MayOpenAs tears 0 (taken first second) first c)
        → LeavesOnly moment left_since old mid (centre + 16) (λ c. may_leave_other c ⊎ MayOpenAs tears 1 (taken first second) second c)
        → LeavesStruck moment left_since mid new centre area log payload
        → (current other : List ℕ) → left_since new centre (moment old) current → left_since new (centre + 16) (moment old) other → ReadsAsEither (payloads_of log) payload (payloads current other)
    same_read may_leave may_leave_other old mid new centre area range choice valid only only_other opening opening_other struck current other left left_other =
        by_places (λ n p q. taken first second ≡ Ok n → IsLog n log → LeavesOnly moment left_since mid new p (MayBeDue n log payload) → LeavesOnly moment left_since mid new q (IsIdle (appended log payload))
        → ReadsAsEither (payloads_of log) payload (payloads current other)) centre
        (λ is of due idle. by_first current other is of
        (since may_leave (MayBeDue 0 log payload) first old mid new centre 0 only opening due current left)
        (since may_leave_other (IsIdle (appended log payload)) second old mid new (centre + 16) 1 only_other opening_other idle other left_other))
        (λ is of due idle. by_second current other is of
        (since may_leave_other (MayBeDue 1 log payload) second old mid new (centre + 16) 1 only_other opening_other due other left_other)
        (since may_leave (IsIdle (appended log payload)) first old mid new centre 0 only opening idle current left))
        area range choice valid struck.current struck.other
