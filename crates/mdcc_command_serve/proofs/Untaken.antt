-- Where a log is refused nothing else was done.
use Rattle.std.proofs.Common.{◌≡◌, ◌∙◌, ◌+◌, Err, Ok, Option, List, Result, arith, subst, sym, ℕ}
use Rattle.std.specs.Prelude.{IfErr, IsErrAnd}
use Rattle.mdcc_disks.specs.Disks.{Disk}
use Rattle.mdcc_command_endings.specs.declared.fault.Failure.{Failure}
use Rattle.mdcc_link.specs.Link.{LinkCall}
use Rattle.mdcc_log_file.specs.declared.fault.LogFault.{LogFault}
use Rattle.mdcc_option.specs.declared.cluster.Cluster.{Cluster}
use Rattle.mdcc_serve.specs.Refusals.{AreTold}
use Rattle.mdcc_serve.specs.Stays.{HasRefused, IsLogRefused, NeverServed}
use Rattle.mdcc_serve.specs.declared.served.Served.{Served}
use Rattle.mdcc_command_serve.specs.Commands.{AllAreTold, IsRefusal, as_served, failure_of}
use Rattle.mdcc_serve_site.specs.declared.fault.ServeFault.{ServeFault}

-- a refusal of the command is one of the server
is_refused : (fault : ServeFault) → IsRefusal (failure_of fault) → IsLogRefused fault
is_refused (ServeFault.Disk a) refusal = refusal
is_refused (ServeFault.Log a (LogFault.NotALog offset)) refusal = refusal
is_refused (ServeFault.Log a LogFault.LogFull) refusal = refusal
is_refused (ServeFault.Log a LogFault.DiskFault) refusal = refusal
is_refused (ServeFault.Log a LogFault.Memory) refusal = refusal
is_refused (ServeFault.Boot a why) refusal = refusal
is_refused ServeFault.Link refusal = refusal
is_refused ServeFault.Output refusal = refusal
is_refused ServeFault.Serial refusal = refusal
is_refused ServeFault.Memory refusal = refusal

by_result : (Told X : Type 0) (result : Result Served ServeFault) → IfErr result (λ fault. IsLogRefused fault → Told → X) → IfErr (as_served result) (λ failure. IsRefusal failure → Told → X)
by_result Told X (Ok done) h = tt
by_result Told X (Err fault) h = λ refusal told. h (is_refused fault refusal) told

weaker : (Told Other X Y : Type 0) (result : Result Served ServeFault) → (Other → Told) → (X → Y) → IfErr result (λ fault. IsLogRefused fault → Told → X) → IfErr result (λ fault. IsLogRefused fault → Other → Y)
weaker Told Other X Y (Ok done) known so h = tt
weaker Told Other X Y (Err fault) known so h = λ refused told. so (h refused (known told))

module _ {D L O : Type 0} (disk : D → ℕ → Disk) (may_leave : D → ℕ → List ℕ → Type 0) (tears : ℕ → Type 0) (calls : L → Option (List LinkCall)) (lost : L → ℕ) (cluster : Cluster) (first end : ℕ) (disks_old disks_new : D) (link mid new : L) (out out_new : O)
    (called : calls mid ≡ calls link) (sent : lost mid ≡ lost link)
  where
    -- what it says of a link that was told how long to wait it says of the link before
    since_then : HasRefused disk may_leave tears calls lost cluster first end disks_old disks_new mid new out out_new → HasRefused disk may_leave tears calls lost cluster first end disks_old disks_new link new out out_new
    since_then has = record { link = has.link ∙ called; sends = has.sends ∙ sent; output = has.output; logs = has.logs }

    pub refused_served : (Told Other : Type 0) (result : Result Served ServeFault) (served : Result Served Failure) → served ≡ as_served result → (Other → Told)
        → IfErr result (λ fault. IsLogRefused fault → Told → HasRefused disk may_leave tears calls lost cluster first end disks_old disks_new mid new out out_new)
        → IfErr served (λ failure. IsRefusal failure → Other → HasRefused disk may_leave tears calls lost cluster first end disks_old disks_new link new out out_new)
    refused_served Told Other result served is known h =
        subst (λ (r : Result Served Failure). IfErr r (λ failure. IsRefusal failure → Other → HasRefused disk may_leave tears calls lost cluster first end disks_old disks_new link new out out_new)) (sym is)
        (by_result Other (HasRefused disk may_leave tears calls lost cluster first end disks_old disks_new link new out out_new) result
        (weaker Told Other (HasRefused disk may_leave tears calls lost cluster first end disks_old disks_new mid new out out_new) (HasRefused disk may_leave tears calls lost cluster first end disks_old disks_new link new out out_new) result known since_then h))

    -- so it does where nothing was served
    never_since : (every : ℕ) (fault : ServeFault) → NeverServed disk may_leave tears every calls lost cluster first end disks_old disks_new mid new out out_new fault
        → NeverServed disk may_leave tears every calls lost cluster first end disks_old disks_new link new out out_new fault
    never_since every fault never = record { link = never.link ∙ called; sends = never.sends ∙ sent; output = never.output; logs = never.logs; full = never.full }

    pub unserved_since : (every : ℕ) (result : Result Served ServeFault) → IsErrAnd result (NeverServed disk may_leave tears every calls lost cluster first end disks_old disks_new mid new out out_new)
        → IsErrAnd result (NeverServed disk may_leave tears every calls lost cluster first end disks_old disks_new link new out out_new)
    unserved_since every (Ok done) never = never
    unserved_since every (Err fault) never = never_since every fault never

-- all centres of a cluster are those from 1 on
pub all_told : {D : Type 0} (disk : D → ℕ → Disk) (cluster : Cluster) (disks : D) → AllAreTold disk cluster disks → AreTold disk cluster disks 1 (cluster.quorums.centres + 1)
all_told disk cluster disks told a low high = told a low (omega (high, arith))
