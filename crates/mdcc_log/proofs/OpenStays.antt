-- What an opening that crashes keeps of two areas.
use Rattle.std.proofs.Common.{◌≡◌, inl, inr, ⊎_elim, ℕ, zero, suc, ◌+◌, ◌≤◌, IsTrue, List, [], ◌∷◌, ◌++◌, Result, Ok, Err, length, sym, ◌∙◌, subst, arith}
use Rattle.mdcc_disks.specs.Disks.{Disk, Only, Within, LeavesOnly}
use Rattle.mdcc_log_file.specs.Log.{frame_body}
use Rattle.mdcc_log_file.specs.Area.{AreaLog, generation_of, payloads, taken}
use Rattle.mdcc_log.specs.AtRest.{MayBeDue}
use Rattle.mdcc_log.specs.Crash.{IsCurrent, IsBetween, IsIdle}
use Rattle.mdcc_log.specs.Frames.{appended, open_calls, other_of, place_of}
use Rattle.mdcc_log.specs.Opening.{MayOpenAs, MaySettleAs, MayTake, OpensOne}
use Rattle.mdcc_log_file.proofs.Moments.{started, weakened}
use Rattle.mdcc_log_file.proofs.ReadCalls.{none_made}
use Rattle.mdcc_log.proofs.Again.{read_again}
use Rattle.mdcc_log.proofs.Choice.{Seen, current_seen, front_seen, first_taken, second_taken, idle_other}
use Rattle.mdcc_log.proofs.Idles.{copy_taken_stays, idle_closed_stays}
use Rattle.mdcc_log.proofs.Keeps.{current_taken_stays, current_closed_stays, between_taken_stays, between_closed_stays}
use Rattle.mdcc_log.proofs.Takes.{differs}

-- it is what may be left of an area that is taken
settled_take : {tears : ℕ → Type 0} (bytes c : List ℕ) → MaySettleAs tears bytes c → MayTake tears bytes c
settled_take bytes c (inl same) = inl same
settled_take bytes c (inr change) = inr (change.0, (change.1.0.read, change.1.1))

pub current_open_stays : {tears : ℕ → Type 0} (which area : ℕ) (choice : Result ℕ ℕ) (log : AreaLog) (bytes c : List ℕ) → IsCurrent area log bytes → MayOpenAs tears which choice bytes c → IsCurrent area log c
current_open_stays which area choice log bytes c is (inl same) = subst (IsCurrent area log) (sym same) is
current_open_stays {tears} which area choice log bytes c is (inr (inl take)) = current_taken_stays {tears = tears} area log bytes c is (settled_take bytes c take.1)
current_open_stays {tears} which area choice log bytes c is (inr (inr close)) = current_closed_stays {tears = tears} area log bytes c is close.1.1.1

pub between_open_stays : {tears : ℕ → Type 0} (which area : ℕ) (choice : Result ℕ ℕ) (log : AreaLog) (p bytes c : List ℕ) → IsBetween area log p bytes → MayOpenAs tears which choice bytes c → IsBetween area log p c
between_open_stays which area choice log p bytes c is (inl same) = subst (IsBetween area log p) (sym same) is
between_open_stays {tears} which area choice log p bytes c is (inr (inl take)) = between_taken_stays {tears = tears} area log p bytes c is (settled_take bytes c take.1)
between_open_stays {tears} which area choice log p bytes c is (inr (inr close)) = between_closed_stays {tears = tears} area log p bytes c is close.1.1.1

pub between_seen : (area : ℕ) (log : AreaLog) (p bytes : List ℕ) → IsBetween area log p bytes → Seen area (generation_of log.head) bytes
between_seen area log p bytes (inl is) = current_seen area log bytes is
between_seen area log p bytes (inr u) = front_seen area log (u.gate ∷ (frame_body p ++ 0 ∷ [])) bytes u.valid u.file

pub due_open_stays : {tears : ℕ → Type 0} (which area : ℕ) (choice : Result ℕ ℕ) (log : AreaLog) (p bytes c : List ℕ) → MayBeDue area log p bytes → MayOpenAs tears which choice bytes c → MayBeDue area log p c
due_open_stays {tears} which area choice log p bytes c (inl is) may = inl (between_open_stays {tears = tears} which area choice log p bytes c is may)
due_open_stays {tears} which area choice log p bytes c (inr is) may = inr (current_open_stays {tears = tears} which area choice (appended log p) bytes c is may)

due_seen : (area g : ℕ) (log : AreaLog) (p bytes : List ℕ) → generation_of log.head ≡ g → MayBeDue area log p bytes → Seen area g bytes
due_seen area g log p bytes same (inl is) = subst (λ (n : ℕ). Seen area n bytes) same (between_seen area log p bytes is)
due_seen area g log p bytes same (inr is) = subst (λ (n : ℕ). Seen area n bytes) same (current_seen area (appended log p) bytes is)

-- the other area is not taken, or it is the copy, which is left as it is
second_open_stays : {tears : ℕ → Type 0} (idle : AreaLog) (first second c : List ℕ) → Seen 0 (generation_of idle.head) first → IsIdle idle second → MayOpenAs tears 1 (taken first second) second c → IsIdle idle c
second_open_stays idle first second c seen was (inl same) = subst (IsIdle idle) (sym same) was
second_open_stays {tears} idle first second c seen was (inr (inl take)) = elim (idle_other idle second was) [
  | inl loses ↦ absurd (differs 0 1 (λ same. omega (arith, same)) (sym (first_taken first second (generation_of idle.head) seen loses) ∙ take.0))
  | inr copy ↦ subst (IsIdle idle) (sym (copy_taken_stays {tears = tears} idle second c copy (settled_take second c take.1))) was
]
second_open_stays {tears} idle first second c seen was (inr (inr close)) = idle_closed_stays {tears = tears} idle second c was close.1.1.1

first_open_stays : {tears : ℕ → Type 0} (idle : AreaLog) (first second c : List ℕ) → Seen 1 (generation_of idle.head) second → IsIdle idle first → MayOpenAs tears 0 (taken first second) first c → IsIdle idle c
first_open_stays idle first second c seen was (inl same) = subst (IsIdle idle) (sym same) was
first_open_stays {tears} idle first second c seen was (inr (inl take)) = elim (idle_other idle first was) [
  | inl loses ↦ absurd (differs 1 0 (λ same. omega (arith, same)) (sym (second_taken first second 1 (generation_of idle.head) (omega arith) seen loses) ∙ take.0))
  | inr copy ↦ subst (IsIdle idle) (sym (copy_taken_stays {tears = tears} idle first c copy (settled_take first c take.1))) was
]
first_open_stays {tears} idle first second c seen was (inr (inr close)) = idle_closed_stays {tears = tears} idle first c was close.1.1.1

-- ---- at both places of a centre

pub by_area : (P : ℕ → Type 0) → P 0 → P 1 → (area : ℕ) → area ≤ 1 → P area
by_area P first second zero range = first
by_area P first second (suc zero) range = second
by_area P first second (suc (suc n)) range = absurd (omega (arith, range))

module _ {D : Type 0} (disk : D → ℕ → Disk) (may_leave : D → ℕ → List ℕ → Type 0) (moment : D → ℕ) (left_since : D → ℕ → ℕ → List ℕ → Type 0) where
  -- nothing was done
  pub opens_none : (only_now : (disks : D) (p : ℕ) (c : List ℕ) → left_since disks p (moment disks) c → may_leave disks p c) → {T E : Type 0} (tears : ℕ → Type 0) (old : D) (place which : ℕ) (first second : List ℕ) (result : Result T E) (e : E) → result ≡ Err e
      → OpensOne disk may_leave moment left_since tears old old place which first second result
  opens_none only_now {T} {E} tears old place which first second result e failed =
      let file = (disk old place).bytes in
      subst (λ (r : Result T E). OpensOne disk may_leave moment left_since tears old old place which first second r) (sym failed)
      (record {
        any_moment = started moment left_since old place _ (λ c left. inl (only_now old place c left));
        some_calls = none_made (length file) (λ (counts : List ℕ). open_calls which first second file counts) (disk old place).calls;
        all_calls = tt;
      })

  -- the same answer with another value
  pub opens_as : {T U E F : Type 0} {tears : ℕ → Type 0} {old new : D} {place which : ℕ} {first second : List ℕ} (x : T) (y : U) → OpensOne disk may_leave moment left_since {T = T} {E = E} tears old new place which first second (Ok x) → OpensOne disk may_leave moment left_since {T = U} {E = F} tears old new place which first second (Ok y)
  opens_as x y opens = record { any_moment = opens.any_moment; some_calls = opens.some_calls; all_calls = opens.all_calls }

  pub opens_err : {T U E F : Type 0} {tears : ℕ → Type 0} {old new : D} {place which : ℕ} {first second : List ℕ} (one : Result T E) (result : Result U F) (e : F) → result ≡ Err e → OpensOne disk may_leave moment left_since tears old new place which first second one → OpensOne disk may_leave moment left_since tears old new place which first second result
  opens_err {T} {U} {E} {F} {tears} {old} {new} {place} {which} {first} {second} one result e failed opens =
      subst (λ (r : Result U F). OpensOne disk may_leave moment left_since tears old new place which first second r) (sym failed)
      (record { any_moment = opens.any_moment; some_calls = opens.some_calls; all_calls = tt })

  module _ (as_read : (disks : D) (p : ℕ) → IsTrue (disk disks p).told → may_leave disks p (disk disks p).bytes) {T E : Type 0} {tears : ℕ → Type 0} {old new : D} (centre : ℕ) {result : Result T E} (told_first : IsTrue (disk old centre).told) (told_second : IsTrue (disk old (centre + 16)).told)
      (first : OpensOne disk may_leave moment left_since tears old new centre 0 (disk old centre).bytes (disk old (centre + 16)).bytes result)
      (second : OpensOne disk may_leave moment left_since tears old new (centre + 16) 1 (disk old centre).bytes (disk old (centre + 16)).bytes result)
    where
      abbrev first_file : List ℕ
      first_file = (disk old centre).bytes

      abbrev second_file : List ℕ
      second_file = (disk old (centre + 16)).bytes

      here : centre ≡ place_of centre 0
      here = omega arith

      there : centre + 16 ≡ place_of centre 1
      there = omega arith

      pub current_moment : (area : ℕ) (log : AreaLog) → area ≤ 1 → Within (IsCurrent area log) (may_leave old (place_of centre area)) → LeavesOnly moment left_since old new (place_of centre area) (IsCurrent area log)
      current_moment area log range = by_area (λ (n : ℕ). Within (IsCurrent n log) (may_leave old (place_of centre n)) → LeavesOnly moment left_since old new (place_of centre n) (IsCurrent n log)) at_first at_second area range
        where
          at_first : Within (IsCurrent 0 log) (may_leave old (place_of centre 0)) → LeavesOnly moment left_since old new (place_of centre 0) (IsCurrent 0 log)
          at_first within =
              let now : Within (IsCurrent 0 log) (may_leave old centre) = subst (λ (p : ℕ). Within (IsCurrent 0 log) (may_leave old p)) (sym here) within in
              subst (λ (p : ℕ). LeavesOnly moment left_since old new p (IsCurrent 0 log)) here
              (weakened (IsCurrent 0 log) first.any_moment (λ c. ⊎_elim (λ left. now c left) (λ may. current_open_stays {tears = tears} 0 0 (taken first_file second_file) log first_file c (now first_file (as_read old centre told_first)) may)))

          at_second : Within (IsCurrent 1 log) (may_leave old (place_of centre 1)) → LeavesOnly moment left_since old new (place_of centre 1) (IsCurrent 1 log)
          at_second within =
              let now : Within (IsCurrent 1 log) (may_leave old (centre + 16)) = subst (λ (p : ℕ). Within (IsCurrent 1 log) (may_leave old p)) (sym there) within in
              subst (λ (p : ℕ). LeavesOnly moment left_since old new p (IsCurrent 1 log)) there
              (weakened (IsCurrent 1 log) second.any_moment (λ c. ⊎_elim (λ left. now c left) (λ may. current_open_stays {tears = tears} 1 1 (taken first_file second_file) log second_file c (now second_file (as_read old (centre + 16) told_second)) may)))

      pub between_moment : (area : ℕ) (log : AreaLog) (payload : List ℕ) → area ≤ 1 → Within (IsBetween area log payload) (may_leave old (place_of centre area)) → LeavesOnly moment left_since old new (place_of centre area) (IsBetween area log payload)
      between_moment area log payload range = by_area (λ (n : ℕ). Within (IsBetween n log payload) (may_leave old (place_of centre n)) → LeavesOnly moment left_since old new (place_of centre n) (IsBetween n log payload)) at_first at_second area range
        where
          at_first : Within (IsBetween 0 log payload) (may_leave old (place_of centre 0)) → LeavesOnly moment left_since old new (place_of centre 0) (IsBetween 0 log payload)
          at_first within =
              let now : Within (IsBetween 0 log payload) (may_leave old centre) = subst (λ (p : ℕ). Within (IsBetween 0 log payload) (may_leave old p)) (sym here) within in
              subst (λ (p : ℕ). LeavesOnly moment left_since old new p (IsBetween 0 log payload)) here
              (weakened (IsBetween 0 log payload) first.any_moment (λ c. ⊎_elim (λ left. now c left) (λ may. between_open_stays {tears = tears} 0 0 (taken first_file second_file) log payload first_file c (now first_file (as_read old centre told_first)) may)))

          at_second : Within (IsBetween 1 log payload) (may_leave old (place_of centre 1)) → LeavesOnly moment left_since old new (place_of centre 1) (IsBetween 1 log payload)
          at_second within =
              let now : Within (IsBetween 1 log payload) (may_leave old (centre + 16)) = subst (λ (p : ℕ). Within (IsBetween 1 log payload) (may_leave old p)) (sym there) within in
              subst (λ (p : ℕ). LeavesOnly moment left_since old new p (IsBetween 1 log payload)) there
              (weakened (IsBetween 1 log payload) second.any_moment (λ c. ⊎_elim (λ left. now c left) (λ may. between_open_stays {tears = tears} 1 1 (taken first_file second_file) log payload second_file c (now second_file (as_read old (centre + 16) told_second)) may)))

      pub due_moment : (area : ℕ) (log : AreaLog) (payload : List ℕ) → area ≤ 1 → Within (MayBeDue area log payload) (may_leave old (place_of centre area)) → LeavesOnly moment left_since old new (place_of centre area) (MayBeDue area log payload)
      due_moment area log payload range = by_area (λ (n : ℕ). Within (MayBeDue n log payload) (may_leave old (place_of centre n)) → LeavesOnly moment left_since old new (place_of centre n) (MayBeDue n log payload)) at_first at_second area range
        where
          at_first : Within (MayBeDue 0 log payload) (may_leave old (place_of centre 0)) → LeavesOnly moment left_since old new (place_of centre 0) (MayBeDue 0 log payload)
          at_first within =
              let now : Within (MayBeDue 0 log payload) (may_leave old centre) = subst (λ (p : ℕ). Within (MayBeDue 0 log payload) (may_leave old p)) (sym here) within in
              subst (λ (p : ℕ). LeavesOnly moment left_since old new p (MayBeDue 0 log payload)) here
              (weakened (MayBeDue 0 log payload) first.any_moment (λ c. ⊎_elim (λ left. now c left) (λ may. due_open_stays {tears = tears} 0 0 (taken first_file second_file) log payload first_file c (now first_file (as_read old centre told_first)) may)))

          at_second : Within (MayBeDue 1 log payload) (may_leave old (place_of centre 1)) → LeavesOnly moment left_since old new (place_of centre 1) (MayBeDue 1 log payload)
          at_second within =
              let now : Within (MayBeDue 1 log payload) (may_leave old (centre + 16)) = subst (λ (p : ℕ). Within (MayBeDue 1 log payload) (may_leave old p)) (sym there) within in
              subst (λ (p : ℕ). LeavesOnly moment left_since old new p (MayBeDue 1 log payload)) there
              (weakened (MayBeDue 1 log payload) second.any_moment (λ c. ⊎_elim (λ left. now c left) (λ may. due_open_stays {tears = tears} 1 1 (taken first_file second_file) log payload second_file c (now second_file (as_read old (centre + 16) told_second)) may)))

      pub idle_moment : (area : ℕ) (log idle : AreaLog) (payload : List ℕ) → area ≤ 1 → generation_of log.head ≡ generation_of idle.head → Within (MayBeDue area log payload) (may_leave old (place_of centre area)) → Within (IsIdle idle) (may_leave old (place_of centre (other_of area))) → LeavesOnly moment left_since old new (place_of centre (other_of area)) (IsIdle idle)
      idle_moment area log idle payload range same = by_area (λ (n : ℕ). Within (MayBeDue n log payload) (may_leave old (place_of centre n)) → Within (IsIdle idle) (may_leave old (place_of centre (other_of n))) → LeavesOnly moment left_since old new (place_of centre (other_of n)) (IsIdle idle)) at_second at_first area range
        where
          at_second : Within (MayBeDue 0 log payload) (may_leave old (place_of centre 0)) → Within (IsIdle idle) (may_leave old (place_of centre 1)) → LeavesOnly moment left_since old new (place_of centre 1) (IsIdle idle)
          at_second within was =
              let now : Within (MayBeDue 0 log payload) (may_leave old centre) = subst (λ (p : ℕ). Within (MayBeDue 0 log payload) (may_leave old p)) (sym here) within in
              let other : Within (IsIdle idle) (may_leave old (centre + 16)) = subst (λ (p : ℕ). Within (IsIdle idle) (may_leave old p)) (sym there) was in
              let seen = due_seen 0 (generation_of idle.head) log payload first_file same (now first_file (as_read old centre told_first)) in
              subst (λ (p : ℕ). LeavesOnly moment left_since old new p (IsIdle idle)) there
              (weakened (IsIdle idle) second.any_moment (λ c. ⊎_elim (λ left. other c left) (λ may. second_open_stays {tears = tears} idle first_file second_file c seen (other second_file (as_read old (centre + 16) told_second)) may)))

          at_first : Within (MayBeDue 1 log payload) (may_leave old (place_of centre 1)) → Within (IsIdle idle) (may_leave old (place_of centre 0)) → LeavesOnly moment left_since old new (place_of centre 0) (IsIdle idle)
          at_first within was =
              let now : Within (MayBeDue 1 log payload) (may_leave old (centre + 16)) = subst (λ (p : ℕ). Within (MayBeDue 1 log payload) (may_leave old p)) (sym there) within in
              let other : Within (IsIdle idle) (may_leave old centre) = subst (λ (p : ℕ). Within (IsIdle idle) (may_leave old p)) (sym here) was in
              let seen = due_seen 1 (generation_of idle.head) log payload second_file same (now second_file (as_read old (centre + 16) told_second)) in
              subst (λ (p : ℕ). LeavesOnly moment left_since old new p (IsIdle idle)) here
              (weakened (IsIdle idle) first.any_moment (λ c. ⊎_elim (λ left. other c left) (λ may. first_open_stays {tears = tears} idle first_file second_file c seen (other first_file (as_read old centre told_first)) may)))

      pub same_moment : (tears 1 → ⊥) → (all : List (List ℕ)) (current other : List ℕ) → Only first_file (may_leave old centre) → Only second_file (may_leave old (centre + 16)) → payloads first_file second_file ≡ Ok all
          → left_since new centre (moment old) current → left_since new (centre + 16) (moment old) other → payloads current other ≡ Ok all
      same_moment never all current other only_first only_second is left_current left_other =
          read_again {tears = tears} never first_file second_file current other all is
          (⊎_elim (λ left. inl (only_first current left)) (λ may. may) (first.any_moment.each current left_current))
          (⊎_elim (λ left. inl (only_second other left)) (λ may. may) (second.any_moment.each other left_other))
