-- What loading one of two places leaves.
use Rattle.std.proofs.Common.{◌≡◌, ◌≢◌, ℕ, List, ◌∷◌, length, Option, IsTrue, OnOk, Result, Ok, Err, sym, ◌∙◌, ap, subst}
use Rattle.mdcc_disks.specs.Disks.{Disk, DiskCall, Only, Within, KeepsOthers, LeavesOnly}
use Rattle.mdcc_disks.specs.Disks.DiskCall.{Length, Sync}
use Rattle.mdcc_log_file.specs.Calls.{ReadsAll, ReadsSome, read_calls}
use Rattle.mdcc_log_file.proofs.Moments.{both}
use Rattle.mdcc_log.specs.Opening.{LoadsOne}
use Rattle.mdcc_log_file.proofs.ReadCalls.{all_are_some, none_made}
use Rattle.mdcc_log_file.proofs.Joined.{moment_beside}

abbrev pub load_calls : ℕ → List ℕ → List DiskCall
load_calls size counts = Sync ∷ Length ∷ read_calls size 0 counts

module _ {D : Type 0} (disk : D → ℕ → Disk) (may_leave : D → ℕ → List ℕ → Type 0) (moment : D → ℕ) (left_since : D → ℕ → ℕ → List ℕ → Type 0) (only_now : (disks : D) (p : ℕ) (c : List ℕ) → left_since disks p (moment disks) c → may_leave disks p c) where
  -- it was not loaded, since another place failed
  pub loads_not : {T E : Type 0} (old new : D) (place other : ℕ) (result : Result T E) (e : E) → result ≡ Err e → place ≢ other → KeepsOthers disk may_leave moment left_since old new other → LoadsOne disk may_leave moment left_since old new place result
  loads_not {T} {E} old new place other result e failed apart keeps =
      subst (λ (r : Result T E). LoadsOne disk may_leave moment left_since old new place r) (sym failed)
      (record {
        told = ap (λ (d : Disk). d.told) (keeps.others place apart);
        bytes = ap (λ (d : Disk). d.bytes) (keeps.others place apart);
        durable = λ told. tt;
        any_moment = moment_beside disk may_leave moment left_since only_now old new place other (may_leave old place) apart keeps (λ c now. now);
        some_calls = λ told. subst (λ (o : Option (List DiskCall)). ReadsSome (length (disk old place).bytes) (load_calls (length (disk old place).bytes)) (disk old place).calls o) (sym (ap (λ (d : Disk). d.calls) (keeps.others place apart)))
            (none_made (length (disk old place).bytes) (load_calls (length (disk old place).bytes)) (disk old place).calls);
        all_calls = λ told. tt;
      })

  -- it was loaded, and then another place
  pub loads_first : {X Y : Type 0} (old mid new : D) (place other : ℕ) (result : Result X Y) → place ≢ other → KeepsOthers disk may_leave moment left_since mid new other
      → ((disk mid place).told ≡ (disk old place).told) → ((disk mid place).bytes ≡ (disk old place).bytes) → (IsTrue (disk old place).told → Only (disk mid place).bytes (may_leave mid place)) → LeavesOnly moment left_since old mid place (may_leave old place)
      → (IsTrue (disk old place).told → ReadsAll (length (disk old place).bytes) (load_calls (length (disk old place).bytes)) (disk old place).calls (disk mid place).calls)
      → Within (may_leave old place) (may_leave mid place)
      → LoadsOne disk may_leave moment left_since old new place result
  loads_first old mid new place other result apart keeps told_is same durable moments all within = record {
    told = ap (λ (d : Disk). d.told) (keeps.others place apart) ∙ told_is;
    bytes = ap (λ (d : Disk). d.bytes) (keeps.others place apart) ∙ same;
    durable = λ told. always result (λ c now. durable told c (keeps.crash place apart c now) ∙ sym (ap (λ (d : Disk). d.bytes) (keeps.others place apart)));
    any_moment = both moments (moment_beside disk may_leave moment left_since only_now mid new place other (may_leave old place) apart keeps within);
    some_calls = λ told. subst (λ (o : Option (List DiskCall)). ReadsSome (length (disk old place).bytes) (load_calls (length (disk old place).bytes)) (disk old place).calls o) (sym (ap (λ (d : Disk). d.calls) (keeps.others place apart)))
        (all_are_some (length (disk old place).bytes) (load_calls (length (disk old place).bytes)) _ _ (all told));
    all_calls = λ told. always result (subst (λ (o : Option (List DiskCall)). ReadsAll (length (disk old place).bytes) (load_calls (length (disk old place).bytes)) (disk old place).calls o) (sym (ap (λ (d : Disk). d.calls) (keeps.others place apart))) (all told));
  }
    where
      always : {A B Q : Type 0} (r : Result A B) → Q → OnOk r Q
      always (Ok x) has = has
      always (Err e) has = tt
