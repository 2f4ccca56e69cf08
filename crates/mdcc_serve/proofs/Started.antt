-- One thing after another at the disks of a centre, and the faults that come there.
use Rattle.std.proofs.Common.{ℕ, ◌+◌, List, ◌∙◌, inl, inr, arith}
use Rattle.mdcc_log_file.specs.declared.fault.LogFault.{LogFault}
use Rattle.mdcc_disks.specs.Disks.{Disk}
use Rattle.mdcc_option.specs.declared.cluster.Cluster.{Cluster}
use Rattle.mdcc_serve_outbox.proofs.Handed.{rose_before}
use Rattle.mdcc_def_server_runs.specs.Acts.{Act}
use Rattle.mdcc_def_server_runs.specs.Servers.{Log}
use Rattle.mdcc_serve_site.specs.Causes.{BootsRefused, ComesAt, IsNoBoot}
use Rattle.mdcc_serve_site.specs.LogEffects.{CausedOn}
use Rattle.mdcc_serve_site.specs.Moments.{DiskPasses, MayComeAt}
use Rattle.mdcc_serve_site.specs.declared.fault.ServeFault.{ServeFault}

-- where the bytes are known a log is one
pub comes_told : (Told : Type 0) (fault : ServeFault) (rest : List Act) → Told → MayComeAt Told fault rest → ComesAt fault rest
comes_told Told (ServeFault.Disk a) rest told comes = comes
comes_told Told (ServeFault.Log a (LogFault.NotALog offset)) rest told comes = absurd (comes told)
comes_told Told (ServeFault.Log a LogFault.LogFull) rest told comes = comes
comes_told Told (ServeFault.Log a LogFault.DiskFault) rest told comes = absurd comes
comes_told Told (ServeFault.Log a LogFault.Memory) rest told comes = absurd comes
comes_told Told (ServeFault.Boot a fault) rest told comes = comes
comes_told Told ServeFault.Link rest told comes = comes
comes_told Told ServeFault.Output rest told comes = comes
comes_told Told ServeFault.Serial rest told comes = comes
comes_told Told ServeFault.Memory rest told comes = tt

pub none_refused : (cluster : Cluster) (logs : List Log) (fault : ServeFault) → IsNoBoot fault → BootsRefused cluster logs fault
none_refused cluster logs (ServeFault.Disk a) no_boot = tt
none_refused cluster logs (ServeFault.Log a fault) no_boot = tt
none_refused cluster logs (ServeFault.Boot a fault) no_boot = absurd no_boot
none_refused cluster logs ServeFault.Link no_boot = tt
none_refused cluster logs ServeFault.Output no_boot = tt
none_refused cluster logs ServeFault.Serial no_boot = tt
none_refused cluster logs ServeFault.Memory no_boot = tt

module _ {D : Type 0} (disk : D → ℕ → Disk) (may_leave : D → ℕ → List ℕ → Type 0) where
  pub passes_on : {old mid new : D} → DiskPasses disk may_leave old mid → DiskPasses disk may_leave mid new → DiskPasses disk may_leave old new
  passes_on one two = record { told = λ p. two.told p ∙ one.told p; faults = λ p. (let a = one.faults p in let b = two.faults p in omega (a, b, arith)) }

  pub caused_on : (fault : ServeFault) (old mid new : D) → DiskPasses disk may_leave old mid → CausedOn disk may_leave fault mid new → CausedOn disk may_leave fault old new
  caused_on (ServeFault.Disk a) old mid new past (inl here) = inl (rose_before (disk old a).faults (disk mid a).faults (disk new a).faults (past.faults a) here)
  caused_on (ServeFault.Disk a) old mid new past (inr there) = inr (rose_before (disk old (a + 16)).faults (disk mid (a + 16)).faults (disk new (a + 16)).faults (past.faults (a + 16)) there)
  caused_on (ServeFault.Log a fault) old mid new past cause = tt
  caused_on (ServeFault.Boot a fault) old mid new past cause = tt
  caused_on ServeFault.Link old mid new past cause = tt
  caused_on ServeFault.Output old mid new past cause = tt
  caused_on ServeFault.Serial old mid new past cause = tt
  caused_on ServeFault.Memory old mid new past cause = tt
