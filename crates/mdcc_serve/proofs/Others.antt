-- What stays of the disks of centres that are not served.
use Rattle.std.proofs.Common.{◌≡◌, ℕ, ◌+◌, ◌≤◌, List, [], ◌∷◌, ◌++◌, length, refl, ◌∙◌, subst, arith}
use Rattle.mdcc_disks.specs.Disks.{Disk}
use Rattle.mdcc_def_server_runs.specs.Servers.{Log, starts}
use Rattle.mdcc_def_server_runs.specs.Sites.{Site}
use Rattle.mdcc_serve.proofs.Doings.{each_back}
use Rattle.mdcc_serve.specs.Others.{IsNoDiskOf, IsNoDiskOfSites, IsUnserved, KeepsDisks}
use Rattle.mdcc_serve.specs.Starts.{Follow}
use Rattle.mdcc_serve_site.specs.Moments.{KeepsOthers}

-- ---- which disks they are

-- no disk of one of them
pub elsewhere_in : (sites front : List Site) (site : Site) (back : List Site) (p : ℕ) → sites ≡ front ++ site ∷ back → IsNoDiskOfSites sites p → IsNoDiskOf p site.centre
elsewhere_in sites front site back p are is =
    (each_back (λ (s : Site). IsNoDiskOf p s.centre) front (site ∷ back) (subst (λ (all : List Site). IsNoDiskOfSites all p) are is)).0

-- of centres whose numbers are among these
pub unserved_logs : (first end p : ℕ) (logs : List Log) → Follow first logs → first + length logs ≤ end → IsUnserved first end p → IsNoDiskOfSites (starts logs).sites p
unserved_logs first end p [] follow few is = tt
unserved_logs first end p (log ∷ logs) follow few is =
    let e = follow.0 in (
      is log.centre (omega (e, arith)) (omega (e, few, arith)),
      unserved_logs (first + 1) end p logs follow.1 (omega (few, arith)) (λ a low high. is a (omega (low, arith)) high),
    )

-- of one centre
pub unserved_one : (a p : ℕ) → IsNoDiskOf p a → IsUnserved a (a + 1) p
unserved_one a p is b low high = let same : a ≡ b = omega (low, high, arith) in subst (λ (n : ℕ). IsNoDiskOf p n) same is

-- of fewer centres
pub unserved_fewer : (first end all p : ℕ) → end ≤ all → IsUnserved first all p → IsUnserved first end p
unserved_fewer first end all p few is a low high = is a low (omega (high, few, arith))

-- ---- what is kept

module _ {D : Type 0} (disk : D → ℕ → Disk) (may_leave : D → ℕ → List ℕ → Type 0) where
  pub keeps_none : (Which : ℕ → Type 0) (disks : D) → KeepsDisks disk may_leave Which disks disks
  keeps_none Which disks = record { others = λ p is. refl; crash = λ p is c left. left }

  pub keeps_then : (Which : ℕ → Type 0) (old mid new : D) → KeepsDisks disk may_leave Which old mid → KeepsDisks disk may_leave Which mid new → KeepsDisks disk may_leave Which old new
  keeps_then Which old mid new one two = record { others = λ p is. two.others p is ∙ one.others p is; crash = λ p is c left. one.crash p is c (two.crash p is c left) }

  pub keeps_fewer : (All Fewer : ℕ → Type 0) (old new : D) → ((p : ℕ) → Fewer p → All p) → KeepsDisks disk may_leave All old new → KeepsDisks disk may_leave Fewer old new
  keeps_fewer All Fewer old new among keeps = record { others = λ p is. keeps.others p (among p is); crash = λ p is. keeps.crash p (among p is) }

  -- where a centre is one of those that are served
  pub keeps_one : (Which : ℕ → Type 0) (a : ℕ) (old new : D) → ((p : ℕ) → Which p → IsNoDiskOf p a) → KeepsOthers disk may_leave a old new → KeepsDisks disk may_leave Which old new
  keeps_one Which a old new apart keeps = record { others = λ p is. keeps.others p (apart p is).0 (apart p is).1; crash = λ p is. keeps.crash p (apart p is).0 (apart p is).1 }

  -- and where it is the only one
  pub keeps_but : (a : ℕ) (old new : D) → KeepsDisks disk may_leave (IsUnserved a (a + 1)) old new → KeepsOthers disk may_leave a old new
  keeps_but a old new keeps = record {
    others = λ p here there. keeps.others p (unserved_one a p (here, there));
    crash = λ p here there. keeps.crash p (unserved_one a p (here, there));
  }
