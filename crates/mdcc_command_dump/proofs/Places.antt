-- What a dump does at the disks.
use Rattle.std.proofs.Common.{◌≡◌, ◌∙◌, ◌+◌, Err, List, Ok, OnOk, Result, ap, arith, inl, length, refl, subst, sym, ℕ}
use Rattle.mdcc_log_file.specs.Area.{payloads}
use Rattle.mdcc_log_file.specs.Both.{KeepsBut}
use Rattle.mdcc_log.specs.Opening.{OpensOne}
use Rattle.mdcc_disks.specs.Disks.{Disk, DiskCall}
use Rattle.mdcc_command_dump.specs.Commands.{as_done, of_dump}
use Rattle.mdcc_node_log.proofs.Opens.{opens_broke, opens_whole}
use Rattle.mdcc_node_log.specs.Opening.{OnlyOpens, StaysAsLog}
use Rattle.mdcc_command_dump.specs.declared.fault.DumpFault.{DumpFault}
use Rattle.mdcc_command_endings.specs.declared.fault.Failure.{Failure}
use Rattle.mdcc_log.specs.Frames.{open_calls}
use Rattle.mdcc_log_file.proofs.ReadCalls.{none_made}
use Rattle.mdcc_log_file.specs.Calls.{ReadsAll}

-- where nothing was done its log stands
pub stays_unchanged : {D : Type 0} (disk : D → ℕ → Disk) (may_leave : D → ℕ → List ℕ → Type 0) (moment : D → ℕ) (left_since : D → ℕ → ℕ → List ℕ → Type 0) (tears : ℕ → Type 0)
    → ((disks : D) (p : ℕ) (c : List ℕ) → left_since disks p (moment disks) c → may_leave disks p c)
    → (old : D) (a : ℕ) → StaysAsLog disk may_leave moment left_since tears old old a
stays_unchanged disk may_leave moment left_since tears only_now old a all current other never told told_other only only_other read left left_other =
    ap (λ (bytes : List ℕ). payloads bytes other) (only current (only_now old a current left))
    ∙ ap (λ (bytes : List ℕ). payloads (disk old a).bytes bytes) (only_other other (only_now old (a + 16) other left_other))
    ∙ read

-- and those of other centres are as they were
pub but_unchanged : {D : Type 0} (disk : D → ℕ → Disk) (may_leave : D → ℕ → List ℕ → Type 0) (moment : D → ℕ) (left_since : D → ℕ → ℕ → List ℕ → Type 0) (old : D) (one two : ℕ)
    → KeepsBut disk may_leave moment left_since old old one two
but_unchanged disk may_leave moment left_since old one two = record {
  told_one = refl;
  told_two = refl;
  others = λ p first second. refl;
  crash = λ p first second c now. now;
  crash_back = λ p first second c was. was;
  later = omega arith;
  time = λ p t c first second le left. inl left;
  faults_one = omega arith;
  faults_two = omega arith;
}

-- there is nothing where it failed
none_whole : {U F : Type 0} (P : Type 0) (result : Result U F) (fault : F) → result ≡ Err fault → OnOk result P
none_whole {U} {F} P result fault is = subst (λ (r : Result U F). OnOk r P) (sym is) tt

-- and none of the calls of an opening was made
pub opens_none : {D : Type 0} (disk : D → ℕ → Disk) (may_leave : D → ℕ → List ℕ → Type 0) (moment : D → ℕ) (left_since : D → ℕ → ℕ → List ℕ → Type 0) (tears : ℕ → Type 0)
    → ((disks : D) (p : ℕ) (c : List ℕ) → left_since disks p (moment disks) c → may_leave disks p c)
    → (old : D) (a : ℕ) {U F : Type 0} (result : Result U F) (fault : F) → result ≡ Err fault → OnlyOpens disk may_leave moment left_since tears old old a result
opens_none disk may_leave moment left_since tears only_now old a result fault is told told_other = (none_at a 0, none_at (a + 16) 1)
  where
    calls_at : ℕ → ℕ → List ℕ → List DiskCall
    calls_at place which counts = open_calls which (disk old a).bytes (disk old (a + 16)).bytes (disk old place).bytes counts

    none_at : (place which : ℕ) → OpensOne disk may_leave moment left_since tears old old place which (disk old a).bytes (disk old (a + 16)).bytes result
    none_at place which = record {
      any_moment = record { later = omega arith; each = λ c left. inl (only_now old place c left); before = λ t c early left. inl left };
      some_calls = none_made (length (disk old place).bytes) (calls_at place which) (disk old place).calls;
      all_calls = none_whole (ReadsAll (length (disk old place).bytes) (calls_at place which) (disk old place).calls (disk old place).calls) result fault is;
    }

-- a dump as a command has it made the same calls
pub opens_done : {D : Type 0} (disk : D → ℕ → Disk) (may_leave : D → ℕ → List ℕ → Type 0) (moment : D → ℕ) (left_since : D → ℕ → ℕ → List ℕ → Type 0) (tears : ℕ → Type 0) (old new : D)
    → (centre : ℕ) (result : Result (Unit {0}) DumpFault) (done : Result (Unit {0}) Failure) → done ≡ as_done centre result
    → OnlyOpens disk may_leave moment left_since tears old new centre result → OnlyOpens disk may_leave moment left_since tears old new centre done
opens_done disk may_leave moment left_since tears old new centre (Ok all) done is opens =
    opens_whole disk may_leave moment left_since tears old new (let ok : Result (Unit {0}) DumpFault = Ok all in ok) done centre all refl opens
opens_done disk may_leave moment left_since tears old new centre (Err fault) done is opens =
    opens_broke disk may_leave moment left_since tears old new (let err : Result (Unit {0}) DumpFault = Err fault in err) done centre (of_dump centre fault) is opens
