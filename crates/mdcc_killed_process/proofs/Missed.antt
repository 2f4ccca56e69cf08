-- A call that is not made is one that fails.
use Rattle.std.proofs.Common.{Err, None, Option, ap, arith, inl, refl, subst, sym, ℕ, ◌+◌, ◌∙◌, ◌≡◌}
use Rattle.std.specs.Prelude.{List, get_or, suc, zero, ◌≤◌}
use Rattle.mdcc_base.specs.Causes.{Rose}
use Rattle.mdcc_base.specs.Scripts.{one_more}
use Rattle.mdcc_base.specs.declared.faults.Failed.{Failed}
use Rattle.mdcc_disks.specs.Disks.{Disk, DiskCall, IsCall}
use Rattle.mdcc_killed_process.specs.Killed.{IsMissedAt, calls_told, disk_of_killed, may_leave_of_killed}
use Rattle.mdcc_killed_process.specs.declared.disks.KilledDisks.{KilledDisks}

some_missed : {C : Type 0} (missed : ℕ) (calls : Option C) → 1 ≤ missed → calls_told missed calls ≡ None
some_missed zero calls some = absurd (omega (some, arith))
some_missed (suc missed) calls some = refl

none_told : {C : Type 0} (missed : ℕ) (calls : Option C) → calls_told (one_more missed) calls ≡ None
none_told missed calls = some_missed (one_more missed) calls (omega arith)

rises : (faults missed : ℕ) → Rose (faults + missed) (faults + one_more missed)
rises faults missed = omega arith

-- a disk at which so many calls were not made
abbrev seen : ℕ → Disk → Disk
seen missed disk = record { told = disk.told; bytes = disk.bytes; calls = calls_told missed disk.calls; faults = disk.faults + missed }

module _ {D : Type 0} (disk : D → ℕ → Disk) (may_leave : D → ℕ → List ℕ → Type 0) (moment : D → ℕ) (left_since : D → ℕ → ℕ → List ℕ → Type 0) where
  pub not_made : {T : Type 0} (old new : KilledDisks D) (place : ℕ) (call : DiskCall) (failed : Failed) → new.disks ≡ old.disks → IsMissedAt place old.missed new.missed
      → IsCall (disk_of_killed disk) (may_leave_of_killed may_leave) (λ killed. moment killed.disks) (λ killed. left_since killed.disks) {T = T} old new place call (Err failed)
  not_made old new place call failed same missed =
      let before : ℕ = get_or old.missed place 0 in
      let here : disk_of_killed disk new place ≡ seen (one_more before) (disk old.disks place) =
      ap (λ (n : ℕ). seen n (disk new.disks place)) missed.here ∙ ap (λ (disks : D). seen (one_more before) (disk disks place)) same in
      record {
        others = record {
          told = ap (λ (d : Disk). d.told) here;
          others = λ p other. ap (λ (n : ℕ). seen n (disk new.disks p)) (missed.elsewhere p other) ∙ ap (λ (disks : D). seen (get_or old.missed p 0) (disk disks p)) same;
          crash = λ p other c left. subst (λ (disks : D). may_leave disks p c) same left;
          crash_back = λ p other c left. subst (λ (disks : D). may_leave disks p c) (sym same) left;
          later = subst (λ (disks : D). moment old.disks ≤ moment disks) (sym same) (omega arith);
          time = λ p t c other past since. inl (subst (λ (disks : D). left_since disks p t c) same since);
        };
        time = record {
          later = subst (λ (disks : D). moment old.disks ≤ moment disks) (sym same) (omega arith);
          nothing_else = λ t c past since. inl (subst (λ (disks : D). left_since disks place t c) same since);
          keeps = λ t c past since. subst (λ (disks : D). left_since disks place t c) (sym same) since;
        };
        cause = record {
          later = subst (λ (d : Disk). (disk_of_killed disk old place).faults ≤ d.faults) (sym here) (let more = missed.later in let is = missed.here in omega (more, is, arith));
          failed = subst (λ (d : Disk). Rose (disk_of_killed disk old place).faults d.faults) (sym here) (rises (disk old.disks place).faults before);
        };
        calls = record { ok = tt; err = inl (ap (λ (d : Disk). d.calls) here ∙ none_told before (disk old.disks place).calls) };
      }
