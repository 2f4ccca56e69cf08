-- Logs that stand while one centre after the other is started.
use Rattle.std.proofs.Common.{ℕ, ◌+◌, ◌≤◌, ◌≢◌, List, inl, inr, subst, sym, arith, nat_lt}
use Rattle.std.proofs.lemmas.Bool.{cases_Bool, cases_eq, ltb-false, ltb-true}
use Rattle.mdcc_disks.specs.Disks.{Disk}
use Rattle.mdcc_option.specs.declared.cluster.Cluster.{Cluster}
use Rattle.mdcc_serve.proofs.Kept.{apart}
use Rattle.mdcc_serve.proofs.Opened.{log_stays_on, log_stays_since, log_stood}
use Rattle.mdcc_serve.specs.Starts.{IsUntouched}
use Rattle.mdcc_serve.specs.Stays.{AllStay, LogStays, UnlessDiskFault}
use Rattle.mdcc_serve_site.specs.Moments.{KeepsOthers}
use Rattle.mdcc_serve_site.specs.declared.fault.ServeFault.{ServeFault}

-- so what follows of it stands too
pub unless_so : {P Q : Type 0} (fault : ServeFault) → UnlessDiskFault fault P → (P → Q) → UnlessDiskFault fault Q
unless_so (ServeFault.Disk a) p so = tt
unless_so (ServeFault.Log a fault) p so = so p
unless_so (ServeFault.Boot a fault) p so = so p
unless_so ServeFault.Link p so = so p
unless_so ServeFault.Output p so = so p
unless_so ServeFault.Serial p so = so p
unless_so ServeFault.Memory p so = so p

module _ {D : Type 0} (disk : D → ℕ → Disk) (may_leave : D → ℕ → List ℕ → Type 0) (tears : ℕ → Type 0) (cluster : Cluster) (old mid new : D) (first b : ℕ) where
  -- a centre of another number
  other_stays : (a : ℕ) → a ≤ 9 → b ≤ 9 → a ≢ b → KeepsOthers disk may_leave b mid new → LogStays disk may_leave tears cluster old mid a → LogStays disk may_leave tears cluster old new a
  other_stays a few most other keeps stays =
      let far = apart a b few most other in
      log_stays_on disk may_leave tears cluster old mid new a (keeps.others a far.here_here far.here_there) (keeps.others (a + 16) far.there_here far.there_there)
      (keeps.crash a far.here_here far.here_there) (keeps.crash (a + 16) far.there_here far.there_there) stays

  -- this one, to whose log nothing was done before
  its_stays : IsUntouched disk may_leave old mid b → LogStays disk may_leave tears cluster mid new b → LogStays disk may_leave tears cluster old new b
  its_stays un stays = log_stays_since disk may_leave tears cluster old mid new b un.first un.second un.crash_first un.crash_second stays

  pub one_stays : b ≤ 9 → AllStay disk may_leave tears cluster old mid first b → IsUntouched disk may_leave old mid b → KeepsOthers disk may_leave b mid new → LogStays disk may_leave tears cluster mid new b → AllStay disk may_leave tears cluster old new first (b + 1)
  one_stays most all un keeps stays a low high = elim (cases_eq a b) [
    | inl is ↦ subst (LogStays disk may_leave tears cluster old new) (sym is) (its_stays un stays)
    | inr other ↦ other_stays a (omega (high, most, arith)) most other keeps (all a low (omega (high, other, arith)))
  ]

  -- and those to whose logs nothing is done
  pub rest_stay : (end : ℕ) → b ≤ 9 → end ≤ 10 → AllStay disk may_leave tears cluster old mid first b → ((a : ℕ) → b ≤ a → a ≤ 9 → IsUntouched disk may_leave old mid a) → KeepsOthers disk may_leave b mid new → LogStays disk may_leave tears cluster mid new b
      → AllStay disk may_leave tears cluster old new first end
  rest_stay end most few all later keeps stays a low high = elim (cases_eq a b) [
    | inl is ↦ subst (LogStays disk may_leave tears cluster old new) (sym is) (its_stays (later b (omega arith) most) stays)
    | inr other ↦ other_stays a (omega (high, few, arith)) most other keeps (elim (cases_Bool (nat_lt a b)) [
      | inl before ↦ all a low (ltb-true a b before)
      | inr not ↦ (let un = later a (ltb-false a b not) (omega (high, few, arith)) in log_stood disk may_leave tears cluster old mid a un.first un.second un.crash_first un.crash_second)
    ])
  ]
