-- A payload is appended, and then all are copied.
use Rattle.std.proofs.Common.{◌≡◌, ◌≢◌, ◌⊎◌, inl, inr, ℕ, ◌≤◌, ◌==◌, Bool, cond, false, List, [], ◌++◌, Ok, Result, sym, ◌∙◌, ap, refl, subst, arith}
use Rattle.std.proofs.lemmas.Bool.{cases_eq}
use Rattle.std.proofs.lemmas.Bool.Decides.{nat_tests}
use Rattle.mdcc_disks.specs.Disks.{Disk, Within, KeepsOthers, LeavesOnly}
use Rattle.mdcc_log_file.proofs.Moments.{both, weakened}
use Rattle.mdcc_log_file.specs.Area.{AreaLog, generation_of, payloads_in, payloads_of, read_area, spare_of}
use Rattle.mdcc_log.specs.AtRest.{IsAtRest, MayBeDue}
use Rattle.mdcc_log.specs.Crash.{IsBetween, IsCurrent, IsDead, IsIdle, IsOlder, ReadsAsEither, payloads_by}
use Rattle.mdcc_log.specs.Frames.{OpenAreas, IsInUse, IsSpare, appended, packed, other_of, place_of}
use Rattle.mdcc_log.proofs.Choice.{appended_payloads, copy_is_taken, current_is_read, current_read, current_taken, idle_other, packed_payloads, undecided_read}
use Rattle.mdcc_log_file.proofs.Joined.{moment_beside}
use Rattle.mdcc_log.proofs.OpenStays.{between_seen, by_area}

pub apart_areas : (centre area : ℕ) → place_of centre area ≢ place_of centre (other_of area)
apart_areas centre area same = elim (cases_eq area 0) [
  | inl is ↦
      let other : other_of area ≡ 1 = ap other_of is in
      omega (arith, is, same ∙ ap (place_of centre) other)
  | inr isnt ↦
      let other : other_of area ≡ 0 = ap (λ (b : Bool). cond {A = ℕ} b 1 0) (not_zero area isnt) in
      omega (arith, isnt, same ∙ ap (place_of centre) other)
]
  where
    not_zero : (n : ℕ) → (n ≡ 0 → ⊥) → (n == 0) ≡ false
    not_zero n apart = grind (arith, nat_tests)

-- ---- what is read

pub between_read : (area : ℕ) (log : AreaLog) (p current : List ℕ) → IsBetween area log p current → ReadsAsEither (payloads_of log) p (payloads_in (read_area current))
between_read area log p current (inl is) = inl (ap payloads_in (current_read area log current is))
between_read area log p current (inr u) = undecided_read area log p current u

-- beside a copy that has the new payload
between_copy_read : (area : ℕ) (log : AreaLog) (p current other : List ℕ) → IsBetween area log p current → IsIdle (appended log p) other → ReadsAsEither (payloads_of log) p (payloads_by area current other)
between_copy_read area log p current other is idle = elim (idle_other (appended log p) other idle) [
  | inl loses ↦ subst (λ (r : Result (List (List ℕ)) ℕ). ReadsAsEither (payloads_of log) p r) (sym (current_taken area (generation_of log.head) current other (between_seen area log p current is) loses)) (between_read area log p current is)
  | inr copy ↦ inr (copy_is_taken area (appended log p) current other (between_seen area log p current is) copy ∙ ap (λ (l : List (List ℕ)). let ok : Result (List (List ℕ)) ℕ = Ok l in ok) (appended_payloads log p))
]

pub mixed_read : (area : ℕ) (log : AreaLog) (p current other : List ℕ) → IsBetween area log p current ⊎ IsCurrent area (appended log p) current → IsIdle (appended log p) other → ReadsAsEither (payloads_of log) p (payloads_by area current other)
mixed_read area log p current other (inl is) idle = between_copy_read area log p current other is idle
mixed_read area log p current other (inr is) idle =
    inr (current_is_read area (appended log p) current other is idle ∙ ap (λ (l : List (List ℕ)). let ok : Result (List (List ℕ)) ℕ = Ok l in ok) (appended_payloads log p))

module _ {D : Type 0} (disk : D → ℕ → Disk) (may_leave : D → ℕ → List ℕ → Type 0) (moment : D → ℕ) (left_since : D → ℕ → ℕ → List ℕ → Type 0) (only_now : (disks : D) (p : ℕ) (c : List ℕ) → left_since disks p (moment disks) c → may_leave disks p c) where
  -- the other area, where the log in use becomes a later one
  module _ (old mid : D) (frames : OpenAreas) (log : AreaLog) (uses : frames.generation ≡ generation_of log.head) (beside : KeepsOthers disk may_leave moment left_since old mid (place_of frames.centre frames.area))
      (spare : IsSpare frames (disk old (place_of frames.centre (other_of frames.area))).bytes (may_leave old (place_of frames.centre (other_of frames.area))))
    where
      abbrev other_place : ℕ
      other_place = place_of frames.centre (other_of frames.area)

      still_idle : Within (IsIdle log) (may_leave old (place_of frames.centre (other_of frames.area)))
      still_idle c now = subst (IsIdle log) (sym (spare.durable c now)) (of_both spare.idle)
        where
          of_both : IsDead (disk old other_place).bytes ⊎ IsOlder frames.generation (disk old other_place).bytes → IsIdle log (disk old other_place).bytes
          of_both (inl dead) = inl dead
          of_both (inr older) = inr (inl (subst (λ (n : ℕ). IsOlder n (disk old other_place).bytes) uses older))

      pub idle_moment : LeavesOnly moment left_since old mid (place_of frames.centre (other_of frames.area)) (IsIdle log)
      idle_moment = moment_beside disk may_leave moment left_since only_now old mid (place_of frames.centre (other_of frames.area)) (place_of frames.centre frames.area) (IsIdle log) (λ same. apart_areas frames.centre frames.area (sym same)) beside still_idle

  module _ (old mid : D) (frames : OpenAreas) (log : AreaLog) (p : List ℕ) (uses : frames.generation ≡ generation_of log.head) (beside : KeepsOthers disk may_leave moment left_since old mid (place_of frames.centre frames.area))
      (spare : IsSpare frames (disk old (place_of frames.centre (other_of frames.area))).bytes (may_leave old (place_of frames.centre (other_of frames.area))))
    where
      pub other_moment : LeavesOnly moment left_since old mid (place_of frames.centre (other_of frames.area)) (IsIdle (appended log p))
      other_moment = idle_moment old mid frames (appended log p) uses beside spare

      -- where nothing was copied
      pub append_reads : LeavesOnly moment left_since old mid (place_of frames.centre frames.area) (IsBetween frames.area log p) → (current other : List ℕ)
          → left_since mid (place_of frames.centre frames.area) (moment old) current → left_since mid (place_of frames.centre (other_of frames.area)) (moment old) other → ReadsAsEither (payloads_of log) p (payloads_by frames.area current other)
      append_reads first current other left left_other = mixed_read frames.area log p current other (inl (first.each current left)) (other_moment.each other left_other)

      pub append_moment : LeavesOnly moment left_since old mid (place_of frames.centre frames.area) (IsBetween frames.area log p) → LeavesOnly moment left_since old mid (place_of frames.centre frames.area) (MayBeDue frames.area log p)
      append_moment first = weakened (MayBeDue frames.area log p) first (λ c has. inl has)

      -- and where all were
      module _ (new : D) (more : OpenAreas) (centre_is : more.centre ≡ frames.centre) (area_is : more.area ≡ frames.area) where
        pub due_place : LeavesOnly moment left_since old mid (place_of frames.centre frames.area) (IsBetween frames.area log p) → LeavesOnly moment left_since mid new (place_of more.centre more.area) (IsCurrent more.area (appended log p))
            → LeavesOnly moment left_since old new (place_of frames.centre frames.area) (MayBeDue frames.area log p)
        due_place first second =
            let here : place_of more.centre more.area ≡ place_of frames.centre frames.area = ap (λ (n : ℕ). place_of n more.area) centre_is ∙ ap (place_of frames.centre) area_is in
            let second_here = subst (λ (n : ℕ). LeavesOnly moment left_since mid new (place_of frames.centre frames.area) (IsCurrent n (appended log p))) area_is (subst (λ (q : ℕ). LeavesOnly moment left_since mid new q (IsCurrent more.area (appended log p))) here second) in
            both (append_moment first) (weakened (MayBeDue frames.area log p) second_here (λ c has. inr has))

        pub due_other : LeavesOnly moment left_since mid new (place_of more.centre (other_of more.area)) (IsIdle (appended log p)) → LeavesOnly moment left_since old new (place_of frames.centre (other_of frames.area)) (IsIdle (appended log p))
        due_other second_other =
            let there : place_of more.centre (other_of more.area) ≡ place_of frames.centre (other_of frames.area) = ap (λ (n : ℕ). place_of n (other_of more.area)) centre_is ∙ ap (λ (n : ℕ). place_of frames.centre (other_of n)) area_is in
            both other_moment (subst (λ (q : ℕ). LeavesOnly moment left_since mid new q (IsIdle (appended log p))) there second_other)

        pub due_reads : LeavesOnly moment left_since old mid (place_of frames.centre frames.area) (IsBetween frames.area log p) → LeavesOnly moment left_since mid new (place_of more.centre more.area) (IsCurrent more.area (appended log p))
            → LeavesOnly moment left_since mid new (place_of more.centre (other_of more.area)) (IsIdle (appended log p)) → (current other : List ℕ)
            → left_since new (place_of frames.centre frames.area) (moment old) current → left_since new (place_of frames.centre (other_of frames.area)) (moment old) other → ReadsAsEither (payloads_of log) p (payloads_by frames.area current other)
        due_reads first second second_other current other left left_other =
            mixed_read frames.area log p current other ((due_place first second).each current left) ((due_other second_other).each other left_other)

  -- ---- at rest

  pub rested_later : (old mid : D) (frames more : OpenAreas) (group all : List (List ℕ)) (rest : IsAtRest disk may_leave old frames all) (later : AreaLog) → payloads_of later ≡ payloads_of rest.log ++ group
      → more.centre ≡ frames.centre → more.area ≡ frames.area → more.generation ≡ frames.generation → more.spare ≡ frames.spare
      → KeepsOthers disk may_leave moment left_since old mid (place_of frames.centre frames.area)
      → IsInUse more later (disk mid (place_of frames.centre frames.area)).bytes (may_leave mid (place_of frames.centre frames.area))
      → IsAtRest disk may_leave mid more (all ++ group)
  rested_later old mid frames more group all rest later grown centre_is area_is generation_is spare_is beside used =
      let other = place_of frames.centre (other_of frames.area) in
      let apart : other ≢ place_of frames.centre frames.area = λ same. apart_areas frames.centre frames.area (sym same) in
      let here : place_of more.centre more.area ≡ place_of frames.centre frames.area = ap (λ (n : ℕ). place_of n more.area) centre_is ∙ ap (place_of frames.centre) area_is in
      let there : place_of more.centre (other_of more.area) ≡ other = ap (λ (n : ℕ). place_of n (other_of more.area)) centre_is ∙ ap (λ (n : ℕ). place_of frames.centre (other_of n)) area_is in
      let same : (disk mid other).bytes ≡ (disk old other).bytes = ap (λ (d : Disk). d.bytes) (beside.others other apart) in
      let spare : IsSpare more (disk mid other).bytes (may_leave mid other) = record {
        idle = subst (λ (l : List ℕ). IsDead l ⊎ IsOlder more.generation l) (sym same) (subst (λ (n : ℕ). IsDead (disk old other).bytes ⊎ IsOlder n (disk old other).bytes) (sym generation_is) rest.spare.idle);
        spare = spare_is ∙ rest.spare.spare ∙ ap spare_of (sym same);
        durable = λ c now. rest.spare.durable c (beside.crash other apart c now) ∙ sym same;
      } in
      record {
        log = later;
        range = subst (λ (n : ℕ). n ≤ 1) (sym area_is) rest.range;
        payloads_are = ap (λ (l : List (List ℕ)). l ++ group) rest.payloads_are ∙ sym grown;
        in_use = subst (λ (q : ℕ). IsInUse more later (disk mid q).bytes (may_leave mid q)) (sym here) used;
        spare = subst (λ (q : ℕ). IsSpare more (disk mid q).bytes (may_leave mid q)) (sym there) spare;
      }

  pub rested_packed : (mid new : D) (frames more : OpenAreas) (all : List (List ℕ)) (rest : IsAtRest disk may_leave mid frames all) → more.centre ≡ frames.centre → more.area ≡ other_of frames.area
      → IsInUse more (packed rest.log) (disk new (place_of frames.centre (other_of frames.area))).bytes (may_leave new (place_of frames.centre (other_of frames.area)))
      → IsSpare more (disk new (place_of frames.centre frames.area)).bytes (may_leave new (place_of frames.centre frames.area))
      → IsAtRest disk may_leave new more all
  rested_packed mid new frames more all rest centre_is area_is used spare =
      let here : place_of more.centre more.area ≡ place_of frames.centre (other_of frames.area) = ap (λ (n : ℕ). place_of n more.area) centre_is ∙ ap (place_of frames.centre) area_is in
      let back : other_of more.area ≡ frames.area = ap other_of area_is ∙ by_area (λ (n : ℕ). other_of (other_of n) ≡ n) refl refl frames.area rest.range in
      let there : place_of more.centre (other_of more.area) ≡ place_of frames.centre frames.area = ap (λ (n : ℕ). place_of n (other_of more.area)) centre_is ∙ ap (place_of frames.centre) back in
      record {
        log = packed rest.log;
        range = subst (λ (n : ℕ). n ≤ 1) (sym area_is) (by_area (λ (n : ℕ). other_of n ≤ 1) (omega arith) (omega arith) frames.area rest.range);
        payloads_are = rest.payloads_are ∙ sym (packed_payloads rest.log);
        in_use = subst (λ (q : ℕ). IsInUse more (packed rest.log) (disk new q).bytes (may_leave new q)) (sym here) used;
        spare = subst (λ (q : ℕ). IsSpare more (disk new q).bytes (may_leave new q)) (sym there) spare;
      }
