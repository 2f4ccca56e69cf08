-- What a start leaves of its log after a refusal.
use Rattle.std.proofs.Common.{◌≡◌, inl, inr, ⊎_elim, ℕ, ◌+◌, ◌≤◌, List, [], IfErr, IsErrOf, Result, Err, Ok, refl, sym, ◌∙◌, ap, subst}
use Rattle.mdcc_disks.specs.Disks.{Disk}
use Rattle.mdcc_log.proofs.Choice.{current_is_read}
use Rattle.mdcc_log_file.specs.Area.{payloads}
use Rattle.mdcc_log.specs.AtRest.{IsAtRest}
use Rattle.mdcc_log.specs.Crash.{IsCurrent, IsIdle, IsOlder, payloads_by}
use Rattle.mdcc_log.specs.Frames.{OpenAreas, other_of, place_of}
use Rattle.mdcc_log_file.specs.declared.fault.LogFault.{LogFault}
use Rattle.mdcc_log.specs.Opening.{IsOpened}
use Rattle.mdcc_node_log.proofs.Places.{from_places}
use Rattle.mdcc_node_log.proofs.Roomy.{roomy_log}
use Rattle.mdcc_node_log.proofs.Struck.{rest_areas}
use Rattle.mdcc_node_log.specs.Faults.{of_log}
use Rattle.mdcc_node_log.specs.Starting.{IsAsBefore, KeepsLog}
use Rattle.mdcc_node_log.specs.declared.fault.StartFault.{StartFault}

-- whatever the fault is
pub each-fault : {T E : Type 0} (P : E → Type 0) (result : Result T E) → ((fault : E) → P fault) → IfErr result P
each-fault P (Ok x) each = tt
each-fault P (Err fault) each = each fault

abbrev ok_of : List (List ℕ) → Result (List (List ℕ)) ℕ
ok_of l = Ok l

module _ {D : Type 0} (disk : D → ℕ → Disk) (may_leave : D → ℕ → List ℕ → Type 0) where
  -- what is at rest is read
  pub rest_read : (new : D) (all : List (List ℕ)) (frames : OpenAreas) (me : ℕ) → frames.centre ≡ me → IsAtRest disk may_leave new frames all
      → payloads (disk new me).bytes (disk new (me + 16)).bytes ≡ Ok all
  rest_read new all frames me is rest =
      let here = place_of frames.centre frames.area in
      let there = place_of frames.centre (other_of frames.area) in
      let current : IsCurrent frames.area rest.log (disk new here).bytes = record { valid = rest.in_use.valid; file = inr ([], rest.in_use.file) } in
      let idle : IsIdle rest.log (disk new there).bytes = ⊎_elim (λ dead. inl dead) (λ older. inr (inl (subst (λ (n : ℕ). IsOlder n (disk new there).bytes) rest.in_use.generation older))) rest.spare.idle in
      let read = current_is_read frames.area rest.log (disk new here).bytes (disk new there).bytes current idle ∙ ap ok_of (sym rest.payloads_are) in
      subst (λ (m : ℕ). payloads (disk new m).bytes (disk new (m + 16)).bytes ≡ Ok all) is
      (from_places (λ n p q. payloads_by n (disk new p).bytes (disk new q).bytes ≡ Ok all) (payloads (disk new frames.centre).bytes (disk new (frames.centre + 16)).bytes ≡ Ok all)
      frames.centre (λ is. is) (λ is. is) frames.area rest.range read)

  module _ (old : D) (all : List (List ℕ)) (me every : ℕ) where
    -- the log was not opened
    pub open-keeps : {T : Type 0} (new : D) (fault : LogFault) (first second : List ℕ) → payloads first second ≡ Ok all
        → ((n : ℕ) → IsErrOf {T = T} (Err fault) (LogFault.NotALog n) → payloads first second ≡ Err n)
        → (IsErrOf {T = T} (Err fault) LogFault.Memory → ((disk new me).bytes ≡ first) × ((disk new (me + 16)).bytes ≡ second))
        → (IsErrOf {T = T} (Err fault) LogFault.LogFull → ⊥)
        → KeepsLog all (of_log fault) me every disk may_leave old new
    open-keeps new LogFault.DiskFault first second read not_a_log memory not_full = tt
    open-keeps new (LogFault.NotALog n) first second read not_a_log memory not_full = let broken = not_a_log n refl in absurd (cc)
    open-keeps new LogFault.LogFull first second read not_a_log memory not_full = absurd (not_full refl)
    open-keeps new LogFault.Memory first second read not_a_log memory not_full =
        let same = memory refl in
        ap (λ (l : List ℕ). payloads l (disk new (me + 16)).bytes) same.0 ∙ ap (λ (l : List ℕ). payloads first l) same.1 ∙ read

    -- it was opened
    pub opened-before : (moment : D → ℕ) (left_since : D → ℕ → ℕ → List ℕ → Type 0) (new : D) (frames : OpenAreas) (found : List (List ℕ)) → frames.centre ≡ me → frames.area ≤ 1 → found ≡ all
        → IsOpened disk may_leave moment left_since new frames found (disk old me).bytes (disk old (me + 16)).bytes → IsAsBefore all me every disk may_leave old new
    opened-before moment left_since new frames found place range is opened =
        let rest : IsAtRest disk may_leave new frames all = record { log = opened.log; range = range; payloads_are = sym is ∙ opened.payloads_are; in_use = opened.in_use; spare = opened.spare } in
        record {
          frames = frames;
          place = place;
          at_rest = rest;
          room = λ room. record {
            log = opened.log;
            read = (rest_areas disk may_leave new frames me all place rest).log_is;
            roomy = roomy_log every (disk old me) (disk old (me + 16)) opened.log opened.read room;
            often = room.often;
          };
          same = λ log read. (rest_areas disk may_leave new frames me all place rest).log_is ∙ sym opened.read ∙ read;
        }

    -- and nothing was written since
    pub rest-keeps : (new : D) (fault : StartFault) → IsAsBefore all me every disk may_leave old new → KeepsLog all fault me every disk may_leave old new
    rest-keeps new (StartFault.Log LogFault.DiskFault) was = tt
    rest-keeps new (StartFault.Log (LogFault.NotALog n)) was = was
    rest-keeps new (StartFault.Log LogFault.LogFull) was = was
    rest-keeps new (StartFault.Log LogFault.Memory) was = was
    rest-keeps new (StartFault.Boot fault) was = was
    rest-keeps new StartFault.Memory was = rest_read new all was.frames me was.place was.at_rest

    -- the new boot was not appended
    pub append-keeps : (mid new : D) (fault : LogFault) → IsAsBefore all me every disk may_leave old mid
        → (IsErrOf {T = Unit {0}} (Err fault) LogFault.LogFull → new ≡ mid)
        → (IsErrOf {T = Unit {0}} (Err fault) LogFault.Memory → new ≡ mid)
        → ((n : ℕ) → IsErrOf {T = Unit {0}} (Err fault) (LogFault.NotALog n) → ⊥)
        → KeepsLog all (of_log fault) me every disk may_leave old new
    append-keeps mid new LogFault.DiskFault was full memory a_log = tt
    append-keeps mid new (LogFault.NotALog n) was full memory a_log = absurd (a_log n refl)
    append-keeps mid new LogFault.LogFull was full memory a_log = subst (λ (d : D). IsAsBefore all me every disk may_leave old d) (sym (full refl)) was
    append-keeps mid new LogFault.Memory was full memory a_log =
        subst (λ (d : D). payloads (disk d me).bytes (disk d (me + 16)).bytes ≡ Ok all) (sym (memory refl)) (rest_read mid all was.frames me was.place was.at_rest)
