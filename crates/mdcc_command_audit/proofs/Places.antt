-- What opening several logs one after another leaves at the disks of each.
use Rattle.std.proofs.Common.{◌≡◌, ◌≢◌, ◌∙◌, ◌+◌, ◌<◌, ◌≤◌, ◌⊎◌, Err, IsTrue, List, OnOk, Result, arith, inl, inr, length, refl, subst, sym, ⊎_elim, ℕ}
use Rattle.mdcc_command_audit.specs.Audits.{IsElsewhere, KeepsDisks}
use Rattle.mdcc_node_log.specs.Opening.{OnlyOpens}
use Rattle.mdcc_disks.specs.Disks.{Disk, DiskCall, LeavesOnly}
use Rattle.mdcc_log_file.specs.Area.{taken}
use Rattle.mdcc_log_file.specs.Both.{KeepsBut}
use Rattle.mdcc_log.specs.Frames.{open_calls}
use Rattle.mdcc_log.specs.Opening.{MayOpenAs, OpensOne}
use Rattle.mdcc_log_file.proofs.Moments.{both, weakened}
use Rattle.mdcc_log_file.proofs.ReadCalls.{none_made}
use Rattle.mdcc_log_file.specs.Calls.{ReadsAll, ReadsSome}

-- ---- disks of centres

-- those of a centre whose log was not opened yet
pub elsewhere_one : (last a : ℕ) → last < a → a ≤ 9 → IsElsewhere last a
elsewhere_one last a low high b one = ((λ same. absurd (omega (same, low, one.1, arith))), (λ same. absurd (omega (same, high, one.0, arith))))

pub elsewhere_two : (last a : ℕ) → last < a → a ≤ 9 → IsElsewhere last (a + 16)
elsewhere_two last a low high b one =
    ((λ same. absurd (let over : last < b = omega (same, low, high, one.1, arith) in omega (same, low, one.1, high, arith))), (λ same. absurd (omega (same, low, one.1, arith))))

-- those of fewer centres
pub elsewhere_fewer : (few many p : ℕ) → few ≤ many → IsElsewhere many p → IsElsewhere few p
elsewhere_fewer few many p le is b one = is b (one.0, omega (one.1, le, arith))

pub elsewhere_last : (last p : ℕ) → 1 ≤ last → IsElsewhere last p → (p ≢ last) × (p ≢ last + 16)
elsewhere_last last p some is = is last (some, omega arith)

module _ {D : Type 0} (disk : D → ℕ → Disk) (may_leave : D → ℕ → List ℕ → Type 0) (moment : D → ℕ) (left_since : D → ℕ → ℕ → List ℕ → Type 0) where
  -- ---- disks at which nothing was done

  pub keeps_none : (Which : ℕ → Type 0) (old : D) → KeepsDisks disk may_leave moment left_since Which old old
  keeps_none Which old = record { disks = λ p is. refl; crash = λ p is c now. now; later = omega arith; time = λ p t c is le left. inl left }

  pub keeps_joined : (Which : ℕ → Type 0) (old mid new : D) → KeepsDisks disk may_leave moment left_since Which old mid → KeepsDisks disk may_leave moment left_since Which mid new → KeepsDisks disk may_leave moment left_since Which old new
  keeps_joined Which old mid new first second = record {
    disks = λ p is. second.disks p is ∙ first.disks p is;
    crash = λ p is c now. first.crash p is c (second.crash p is c now);
    later = omega (arith, first.later, second.later);
    time = λ p t c is le left. ⊎_elim (first.time p t c is le) (λ now. inr (first.crash p is c now)) (second.time p t c is (omega (arith, le, first.later)) left);
  }

  pub keeps_fewer : (Many Few : ℕ → Type 0) (old new : D) → ((p : ℕ) → Few p → Many p) → KeepsDisks disk may_leave moment left_since Many old new → KeepsDisks disk may_leave moment left_since Few old new
  keeps_fewer Many Few old new among keeps = record {
    disks = λ p is. keeps.disks p (among p is);
    crash = λ p is. keeps.crash p (among p is);
    later = keeps.later;
    time = λ p t c is. keeps.time p t c (among p is);
  }

  pub keeps_but : (Which : ℕ → Type 0) (a : ℕ) (old new : D) → ((p : ℕ) → Which p → (p ≢ a) × (p ≢ a + 16)) → KeepsBut disk may_leave moment left_since old new a (a + 16) → KeepsDisks disk may_leave moment left_since Which old new
  keeps_but Which a old new apart keeps = record {
    disks = λ p is. keeps.others p (apart p is).0 (apart p is).1;
    crash = λ p is. keeps.crash p (apart p is).0 (apart p is).1;
    later = keeps.later;
    time = λ p t c is. keeps.time p t c (apart p is).0 (apart p is).1;
  }

  module _ (tears : ℕ → Type 0) (counts_now : (disks : D) (p t : ℕ) (c : List ℕ) → t ≤ moment disks → may_leave disks p c → left_since disks p t c) (only_now : (disks : D) (p : ℕ) (c : List ℕ) → left_since disks p (moment disks) c → may_leave disks p c) where
    module _ {T E : Type 0} (result : Result T E) (place which : ℕ) (first second : List ℕ) where
      -- the calls of an opening at this disk, by its bytes
      abbrev calls_of : List ℕ → List ℕ → List DiskCall
      calls_of bytes counts = open_calls which first second bytes counts

      -- what may be left at it
      abbrev Left : D → List ℕ → Type 0
      Left disks c = may_leave disks place c ⊎ MayOpenAs tears which (taken first second) (disk disks place).bytes c

      beside : (Which : ℕ → Type 0) (old new : D) → Which place → KeepsDisks disk may_leave moment left_since Which old new → LeavesOnly moment left_since old new place (Left old)
      beside Which old new is keeps = record {
        later = keeps.later;
        each = λ c left. ⊎_elim (λ was. inl (only_now old place c was)) (λ now. inl now) (keeps.time place (moment old) c is (omega arith) left);
        before = λ t c le left. ⊎_elim (λ was. inl was) (λ now. inr (inl now)) (keeps.time place t c is le left);
      }

      -- nothing was done there before
      pub one_before : (Which : ℕ → Type 0) (old mid new : D) → Which place → KeepsDisks disk may_leave moment left_since Which old mid
          → OpensOne disk may_leave moment left_since tears mid new place which first second result → OpensOne disk may_leave moment left_since tears old new place which first second result
      one_before Which old mid new is keeps one = record {
        any_moment = both (beside Which old mid is keeps) (weakened (Left old) one.any_moment (λ c. ⊎_elim (λ left. inl (keeps.crash place is c left)) (λ may. inr (subst (λ (d : Disk). MayOpenAs tears which (taken first second) d.bytes c) (keeps.disks place is) may))));
        some_calls = subst (λ (d : Disk). ReadsSome (length d.bytes) (calls_of d.bytes) d.calls (disk new place).calls) (keeps.disks place is) one.some_calls;
        all_calls = subst (λ (d : Disk). OnOk result (ReadsAll (length d.bytes) (calls_of d.bytes) d.calls (disk new place).calls)) (keeps.disks place is) one.all_calls;
      }

      -- nothing was done there afterwards
      pub one_after : (Which : ℕ → Type 0) (old mid new : D) → Which place → KeepsDisks disk may_leave moment left_since Which mid new
          → OpensOne disk may_leave moment left_since tears old mid place which first second result → OpensOne disk may_leave moment left_since tears old new place which first second result
      one_after Which old mid new is keeps one = record {
        any_moment = both one.any_moment later;
        some_calls = subst (λ (d : Disk). ReadsSome (length (disk old place).bytes) (calls_of (disk old place).bytes) (disk old place).calls d.calls) (sym (keeps.disks place is)) one.some_calls;
        all_calls = subst (λ (d : Disk). OnOk result (ReadsAll (length (disk old place).bytes) (calls_of (disk old place).bytes) (disk old place).calls d.calls)) (sym (keeps.disks place is)) one.all_calls;
      }
        where
          left_now : (c : List ℕ) → may_leave mid place c → Left old c
          left_now c now = one.any_moment.each c (counts_now mid place (moment old) c one.any_moment.later now)

          later : LeavesOnly moment left_since mid new place (Left old)
          later = record {
            later = keeps.later;
            each = λ c left. ⊎_elim (λ was. left_now c (only_now mid place c was)) (λ now. left_now c now) (keeps.time place (moment mid) c is (omega arith) left);
            before = λ t c le left. ⊎_elim (λ was. inl was) (λ now. inr (left_now c now)) (keeps.time place t c is le left);
          }

      -- nothing was done there at all
      pub one_never : (Which : ℕ → Type 0) (old new : D) (e : E) → result ≡ Err e → Which place → KeepsDisks disk may_leave moment left_since Which old new
          → OpensOne disk may_leave moment left_since tears old new place which first second result
      one_never Which old new e failed is keeps = record {
        any_moment = beside Which old new is keeps;
        some_calls = subst (λ (d : Disk). ReadsSome (length (disk old place).bytes) (calls_of (disk old place).bytes) (disk old place).calls d.calls) (sym (keeps.disks place is)) (none_made (length (disk old place).bytes) (calls_of (disk old place).bytes) (disk old place).calls);
        all_calls = subst (λ (r : Result T E). OnOk r (ReadsAll (length (disk old place).bytes) (calls_of (disk old place).bytes) (disk old place).calls (disk new place).calls)) (sym failed) tt;
      }

    -- ---- at both disks of a centre

    module _ {T E : Type 0} (result : Result T E) (a : ℕ) (Which : ℕ → Type 0) (one : Which a) (two : Which (a + 16)) where
      pub opens_before : (old mid new : D) → KeepsDisks disk may_leave moment left_since Which old mid
          → OnlyOpens disk may_leave moment left_since tears mid new a result → OnlyOpens disk may_leave moment left_since tears old new a result
      opens_before old mid new keeps opens told told_other =
          let first = keeps.disks a one in
          let second = keeps.disks (a + 16) two in
          let is = opens (subst (λ (d : Disk). IsTrue d.told) (sym first) told) (subst (λ (d : Disk). IsTrue d.told) (sym second) told_other) in
          let here : OpensOne disk may_leave moment left_since tears mid new a 0 (disk old a).bytes (disk old (a + 16)).bytes result =
          subst (λ (d : Disk). OpensOne disk may_leave moment left_since tears mid new a 0 (disk old a).bytes d.bytes result) second
          (subst (λ (d : Disk). OpensOne disk may_leave moment left_since tears mid new a 0 d.bytes (disk mid (a + 16)).bytes result) first is.0) in
          let there : OpensOne disk may_leave moment left_since tears mid new (a + 16) 1 (disk old a).bytes (disk old (a + 16)).bytes result =
          subst (λ (d : Disk). OpensOne disk may_leave moment left_since tears mid new (a + 16) 1 (disk old a).bytes d.bytes result) second
          (subst (λ (d : Disk). OpensOne disk may_leave moment left_since tears mid new (a + 16) 1 d.bytes (disk mid (a + 16)).bytes result) first is.1) in
          (one_before result a 0 (disk old a).bytes (disk old (a + 16)).bytes Which old mid new one keeps here, one_before result (a + 16) 1 (disk old a).bytes (disk old (a + 16)).bytes Which old mid new two keeps there)

      pub opens_after : (old mid new : D) → KeepsDisks disk may_leave moment left_since Which mid new
          → OnlyOpens disk may_leave moment left_since tears old mid a result → OnlyOpens disk may_leave moment left_since tears old new a result
      opens_after old mid new keeps opens told told_other =
          let is = opens told told_other in
          (one_after result a 0 (disk old a).bytes (disk old (a + 16)).bytes Which old mid new one keeps is.0, one_after result (a + 16) 1 (disk old a).bytes (disk old (a + 16)).bytes Which old mid new two keeps is.1)

      pub opens_never : (old new : D) (e : E) → result ≡ Err e → KeepsDisks disk may_leave moment left_since Which old new → OnlyOpens disk may_leave moment left_since tears old new a result
      opens_never old new e failed keeps told told_other =
          (one_never result a 0 (disk old a).bytes (disk old (a + 16)).bytes Which old new e failed one keeps, one_never result (a + 16) 1 (disk old a).bytes (disk old (a + 16)).bytes Which old new e failed two keeps)
