-- How a run of calls at a place goes on.
use Rattle.std.proofs.Common.{inl, inr, ⊎_elim, ℕ, List, ◌∙◌, arith}
use Rattle.mdcc_disks.specs.Disks.{Disk, Elapses, KeepsOthers, LeavesOnly}

module _ {D : Type 0} (moment : D → ℕ) (left_since : D → ℕ → ℕ → List ℕ → Type 0) where
  -- before the first call
  pub started : (old : D) (place : ℕ) (P : List ℕ → Type 0) → ((c : List ℕ) → left_since old place (moment old) c → P c) → LeavesOnly moment left_since old old place P
  started old place P here = record { later = omega arith; each = here; before = λ t c le left. inl left }

  -- one call more, after which a crash leaves what has P
  pub goes_on : (old mid new : D) (place : ℕ) (P may_leave : List ℕ → Type 0) → LeavesOnly moment left_since old mid place P → Elapses (moment mid) (moment new) (left_since mid place) (left_since new place) may_leave
      → ((c : List ℕ) → may_leave c → P c) → LeavesOnly moment left_since old new place P
  goes_on old mid new place P may_leave so_far time here = record {
    later = omega (arith, so_far.later, time.later);
    each = λ c left. ⊎_elim (so_far.each c) (here c) (time.nothing_else (moment old) c so_far.later left);
    before = λ t c le left. ⊎_elim (so_far.before t c le) (λ now. inr (here c now)) (time.nothing_else t c (omega (arith, le, so_far.later)) left);
  }

-- one call
pub one_call : {D : Type 0} {moment : D → ℕ} {left_since : D → ℕ → ℕ → List ℕ → Type 0} {old new : D} {place : ℕ} {may_leave : List ℕ → Type 0} (P : List ℕ → Type 0)
    → Elapses (moment old) (moment new) (left_since old place) (left_since new place) may_leave → ((c : List ℕ) → left_since old place (moment old) c → P c) → ((c : List ℕ) → may_leave c → P c) → LeavesOnly moment left_since old new place P
one_call P time before after = record {
  later = time.later;
  each = λ c left. ⊎_elim (before c) (after c) (time.nothing_else _ c (omega arith) left);
  before = λ t c le left. ⊎_elim (λ was. inl was) (λ has. inr (after c has)) (time.nothing_else t c le left);
}

-- what has P has Q too
pub weakened : {D : Type 0} {moment : D → ℕ} {left_since : D → ℕ → ℕ → List ℕ → Type 0} {old new : D} {place : ℕ} {P : List ℕ → Type 0} (Q : List ℕ → Type 0) → LeavesOnly moment left_since old new place P → ((c : List ℕ) → P c → Q c) → LeavesOnly moment left_since old new place Q
weakened Q run from = record {
  later = run.later;
  each = λ c left. from c (run.each c left);
  before = λ t c le left. ⊎_elim (λ was. inl was) (λ has. inr (from c has)) (run.before t c le left);
}

-- two runs
pub both : {D : Type 0} {moment : D → ℕ} {left_since : D → ℕ → ℕ → List ℕ → Type 0} {old mid new : D} {place : ℕ} {P : List ℕ → Type 0} → LeavesOnly moment left_since old mid place P → LeavesOnly moment left_since mid new place P → LeavesOnly moment left_since old new place P
both first second = record {
  later = omega (arith, first.later, second.later);
  each = λ c left. ⊎_elim (first.each c) (λ has. has) (second.before _ c first.later left);
  before = λ t c le left. ⊎_elim (first.before t c le) (λ has. inr has) (second.before t c (omega (arith, le, first.later)) left);
}

module _ {D : Type 0} (disk : D → ℕ → Disk) (may_leave : D → ℕ → List ℕ → Type 0) (moment : D → ℕ) (left_since : D → ℕ → ℕ → List ℕ → Type 0) where
  pub others_joined : (old mid new : D) (place : ℕ) → KeepsOthers disk may_leave moment left_since old mid place → KeepsOthers disk may_leave moment left_since mid new place → KeepsOthers disk may_leave moment left_since old new place
  others_joined old mid new place first second = record {
    told = second.told ∙ first.told;
    others = λ p other. second.others p other ∙ first.others p other;
    crash = λ p other c now. first.crash p other c (second.crash p other c now);
    crash_back = λ p other c was. second.crash_back p other c (first.crash_back p other c was);
    later = omega (arith, first.later, second.later);
    time = λ p t c other le left. ⊎_elim (first.time p t c other le) (λ now. inr (first.crash p other c now)) (second.time p t c other (omega (arith, le, first.later)) left);
  }
