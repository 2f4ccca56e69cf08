-- How what calls leave at two places goes on.
use Rattle.std.proofs.Common.{◌≡◌, ◌≢◌, inl, inr, ⊎_elim, ℕ, ◌≤◌, List, sym, ◌∙◌, ap, refl, arith}
use Rattle.mdcc_base.specs.Causes.{Rose}
use Rattle.mdcc_disks.specs.Disks.{Disk, Within, KeepsOthers, LeavesOnly}
use Rattle.mdcc_log_file.proofs.OnlyReads.{no_reads, reads_joined}
use Rattle.mdcc_log_file.proofs.Moments.{started, weakened, both}
use Rattle.mdcc_log_file.specs.Copying.{IsShut}
use Rattle.mdcc_log_file.specs.Both.{KeepsBut, IsOnlyRead, RoseAtOne, StaysShut}

-- a count that rose
pub rose_later : (a b d : ℕ) → a ≤ b → Rose b d → Rose a d
rose_later a b d le rose = omega (arith, le, rose)

module _ {D : Type 0} (disk : D → ℕ → Disk) (may_leave : D → ℕ → List ℕ → Type 0) (moment : D → ℕ) (left_since : D → ℕ → ℕ → List ℕ → Type 0) (only_now : (disks : D) (p : ℕ) (c : List ℕ) → left_since disks p (moment disks) c → may_leave disks p c) where
  -- calls at another place
  pub moment_beside : (old new : D) (place other : ℕ) (P : List ℕ → Type 0) → place ≢ other → KeepsOthers disk may_leave moment left_since old new other → Within P (may_leave old place) → LeavesOnly moment left_since old new place P
  moment_beside old new place other P apart keeps within = record {
    later = keeps.later;
    each = λ c left. ⊎_elim (λ was. within c (only_now old place c was)) (λ now. within c now) (keeps.time place (moment old) c apart (omega arith) left);
    before = λ t c le left. ⊎_elim (λ was. inl was) (λ now. inr (within c now)) (keeps.time place t c apart le left);
  }

  pub nothing_read : (old : D) (place : ℕ) → IsOnlyRead disk may_leave moment left_since old old place
  nothing_read old place = record {
    bytes = refl;
    crash = λ c now. now;
    any_moment = started moment left_since old place (may_leave old place) (λ c left. only_now old place c left);
    calls = no_reads _ _ refl;
  }

  pub read_joined : (old mid new : D) (place : ℕ) → IsOnlyRead disk may_leave moment left_since old mid place → IsOnlyRead disk may_leave moment left_since mid new place → IsOnlyRead disk may_leave moment left_since old new place
  read_joined old mid new place first second = record {
    bytes = second.bytes ∙ first.bytes;
    crash = λ c now. first.crash c (second.crash c now);
    any_moment = both first.any_moment (weakened (may_leave old place) second.any_moment first.crash);
    calls = reads_joined _ _ _ first.calls second.calls;
  }

  pub read_beside : (old new : D) (place other : ℕ) → place ≢ other → KeepsOthers disk may_leave moment left_since old new other → IsOnlyRead disk may_leave moment left_since old new place
  read_beside old new place other apart keeps = record {
    bytes = ap (λ (d : Disk). d.bytes) (keeps.others place apart);
    crash = keeps.crash place apart;
    any_moment = moment_beside old new place other (may_leave old place) apart keeps (λ c now. now);
    calls = no_reads _ _ (ap (λ (d : Disk). d.calls) (keeps.others place apart));
  }

  pub shut_unchanged : (old : D) (place : ℕ) → StaysShut disk may_leave moment left_since old old place
  shut_unchanged old place = record {
    shut = λ within. within;
    any_moment = λ within. started moment left_since old place IsShut (λ c left. within c (only_now old place c left));
  }

  pub shut_joined : (old mid new : D) (place : ℕ) → StaysShut disk may_leave moment left_since old mid place → StaysShut disk may_leave moment left_since mid new place → StaysShut disk may_leave moment left_since old new place
  shut_joined old mid new place first second = record {
    shut = λ within. second.shut (first.shut within);
    any_moment = λ within. both (first.any_moment within) (second.any_moment (first.shut within));
  }

  pub shut_beside : (old new : D) (place other : ℕ) → place ≢ other → KeepsOthers disk may_leave moment left_since old new other → StaysShut disk may_leave moment left_since old new place
  shut_beside old new place other apart keeps = record {
    shut = λ within c now. within c (keeps.crash place apart c now);
    any_moment = λ within. moment_beside old new place other IsShut apart keeps within;
  }

  -- ---- all other places

  pub but_unchanged : (old : D) (one two : ℕ) → KeepsBut disk may_leave moment left_since old old one two
  but_unchanged old one two = record {
    told_one = refl;
    told_two = refl;
    others = λ p first second. refl;
    crash = λ p first second c now. now;
    crash_back = λ p first second c was. was;
    later = omega arith;
    time = λ p t c first second le left. inl left;
    faults_one = omega arith;
    faults_two = omega arith;
  }

  pub but_joined : (old mid new : D) (one two : ℕ) → KeepsBut disk may_leave moment left_since old mid one two → KeepsBut disk may_leave moment left_since mid new one two → KeepsBut disk may_leave moment left_since old new one two
  but_joined old mid new one two first second = record {
    told_one = second.told_one ∙ first.told_one;
    told_two = second.told_two ∙ first.told_two;
    others = λ p a b. second.others p a b ∙ first.others p a b;
    crash = λ p a b c now. first.crash p a b c (second.crash p a b c now);
    crash_back = λ p a b c was. second.crash_back p a b c (first.crash_back p a b c was);
    later = omega (arith, first.later, second.later);
    time = λ p t c a b le left. ⊎_elim (first.time p t c a b le) (λ now. inr (first.crash p a b c now)) (second.time p t c a b (omega (arith, le, first.later)) left);
    faults_one = omega (arith, first.faults_one, second.faults_one);
    faults_two = omega (arith, first.faults_two, second.faults_two);
  }

  faults_beside : (old new : D) (place other : ℕ) → place ≢ other → KeepsOthers disk may_leave moment left_since old new other → (disk old place).faults ≤ (disk new place).faults
  faults_beside old new place other apart keeps = let same : (disk new place).faults ≡ (disk old place).faults = ap (λ (d : Disk). d.faults) (keeps.others place apart) in omega arith

  pub but_one : (old new : D) (one two : ℕ) → one ≢ two → KeepsOthers disk may_leave moment left_since old new one → (disk old one).faults ≤ (disk new one).faults → KeepsBut disk may_leave moment left_since old new one two
  but_one old new one two apart keeps later = record {
    told_one = keeps.told;
    told_two = ap (λ (d : Disk). d.told) (keeps.others two (λ same. apart (sym same)));
    others = λ p a b. keeps.others p a;
    crash = λ p a b. keeps.crash p a;
    crash_back = λ p a b. keeps.crash_back p a;
    later = keeps.later;
    time = λ p t c a b le left. keeps.time p t c a le left;
    faults_one = later;
    faults_two = faults_beside old new two one (λ same. apart (sym same)) keeps;
  }

  pub but_two : (old new : D) (one two : ℕ) → one ≢ two → KeepsOthers disk may_leave moment left_since old new two → (disk old two).faults ≤ (disk new two).faults → KeepsBut disk may_leave moment left_since old new one two
  but_two old new one two apart keeps later = record {
    told_one = ap (λ (d : Disk). d.told) (keeps.others one apart);
    told_two = keeps.told;
    others = λ p a b. keeps.others p b;
    crash = λ p a b. keeps.crash p b;
    crash_back = λ p a b. keeps.crash_back p b;
    later = keeps.later;
    time = λ p t c a b le left. keeps.time p t c b le left;
    faults_one = faults_beside old new one two apart keeps;
    faults_two = later;
  }

-- a count that rose since
pub fault_later : (old_one mid_one new_one old_two mid_two new_two : Disk) → old_one.faults ≤ mid_one.faults → old_two.faults ≤ mid_two.faults → RoseAtOne mid_one new_one mid_two new_two → RoseAtOne old_one new_one old_two new_two
fault_later old_one mid_one new_one old_two mid_two new_two one two (inl rose) = inl (rose_later old_one.faults mid_one.faults new_one.faults one rose)
fault_later old_one mid_one new_one old_two mid_two new_two one two (inr rose) = inr (rose_later old_two.faults mid_two.faults new_two.faults two rose)

-- the two places named the other way round
pub but_swapped : {D : Type 0} {disk : D → ℕ → Disk} {may_leave : D → ℕ → List ℕ → Type 0} {moment : D → ℕ} {left_since : D → ℕ → ℕ → List ℕ → Type 0} {old new : D} {one two : ℕ} → KeepsBut disk may_leave moment left_since old new one two → KeepsBut disk may_leave moment left_since old new two one
but_swapped keeps = record {
  told_one = keeps.told_two;
  told_two = keeps.told_one;
  others = λ p a b. keeps.others p b a;
  crash = λ p a b. keeps.crash p b a;
  crash_back = λ p a b. keeps.crash_back p b a;
  later = keeps.later;
  time = λ p t c a b. keeps.time p t c b a;
  faults_one = keeps.faults_two;
  faults_two = keeps.faults_one;
}
