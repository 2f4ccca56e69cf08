-- A log that has no room for the boot of its centre, and where a node boots from none.
use Rattle.std.proofs.Common.{◌≡◌, ◌∙◌, ℕ, ◌+◌, List, Option, Result, Ok, Err, IsTrue, refl, subst, sym}
use Rattle.std.specs.Prelude.{IsErrAnd, is_ok}
use Rattle.mdcc_disks.specs.Disks.{Disk}
use Rattle.mdcc_command_endings.specs.Logs.{LogRefusal, node_booted_at}
use Rattle.mdcc_link.specs.Link.{LinkCall}
use Rattle.mdcc_log_file.specs.declared.fault.LogFault.{LogFault}
use Rattle.mdcc_def_messages.specs.declared.facts.Fact.{Fact}
use Rattle.mdcc_option.specs.declared.cluster.Cluster.{Cluster}
use Rattle.mdcc_serve.proofs.Together.{untouched_log}
use Rattle.mdcc_serve.proofs.Untaken.{not_ok}
use Rattle.mdcc_serve.specs.Refusals.{AllBoot, LacksNode, SaysAt}
use Rattle.mdcc_serve.specs.Starts.{FailsToStart, IsUntouched}
use Rattle.mdcc_serve.specs.Stays.{AllStay, NeverServed, OnFullBoot, UnlessDiskFault}
use Rattle.mdcc_serve_site.specs.declared.fault.ServeFault.{ServeFault}

module _ {D : Type 0} (disk : D → ℕ → Disk) (may_leave : D → ℕ → List ℕ → Type 0) (every : ℕ) (cluster : Cluster) (old mid new : D) (b : ℕ) (tears : ℕ → Type 0) where
  -- the start of the centre of this number ended, to whose log nothing was done before
  pub full_boots : (fault : ServeFault) → IsUntouched disk may_leave old mid b → SaysAt disk cluster mid b fault → FailsToStart disk may_leave every tears cluster b fault mid new
      → OnFullBoot disk may_leave every cluster old new fault
  full_boots (ServeFault.Disk a) un says fails = tt
  full_boots (ServeFault.Log a LogFault.LogFull) un says fails = λ log of is.
      let at : log.centre ≡ b = of ∙ says.0 in
      let there = untouched_log disk may_leave every cluster old mid log b at un is in
      (fails.over log at there).full (subst IsTrue (sym (fails.passes.told log.centre)) there.told)
  full_boots (ServeFault.Log a (LogFault.NotALog offset)) un says fails = tt
  full_boots (ServeFault.Log a LogFault.DiskFault) un says fails = tt
  full_boots (ServeFault.Log a LogFault.Memory) un says fails = tt
  full_boots (ServeFault.Boot a why) un says fails = tt
  full_boots ServeFault.Link un says fails = tt
  full_boots ServeFault.Output un says fails = tt
  full_boots ServeFault.Serial un says fails = tt
  full_boots ServeFault.Memory un says fails = tt

-- ---- where no node boots from one of the logs

pub lacks_none : {D : Type 0} (disk : D → ℕ → Disk) (cluster : Cluster) (disks : D) (first end : ℕ) → LacksNode disk cluster disks first end → AllBoot disk cluster disks first end → ⊥
lacks_none disk cluster disks first end lacks all = not_ok (node_booted_at disk cluster disks lacks.at) lacks.why lacks.is (all lacks.at lacks.from lacks.to lacks.told)
