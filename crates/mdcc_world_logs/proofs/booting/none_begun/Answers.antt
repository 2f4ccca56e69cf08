use Rattle.std.proofs.Common.{ℕ, [], subst}
use Rattle.mdcc_world_logs.proofs.Begun.{none-begun}
use Rattle.mdcc_world_logs.proofs.booting.none_begun.Goals as goal
use Rattle.mdcc_world_logs.specs.Starting.{AreBegun}

pub returns : goal.returns
returns c =
    subst (λ (centres : ℕ). AreBegun (record { disks = c.in_ok-disks.disks; «open» = c.new-2.result }) centres 0) c.centres.ensures.value
    (none-begun _ c.centres.result [] c.in_ok-disks.ensures c.new-2.ensures.items)
