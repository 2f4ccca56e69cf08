use Rattle.std.proofs.Common.{◌≡◌, length, arith}
use Rattle.mdcc_leader.proofs.Promised.{length-counted, reports-counted}
use Rattle.mdcc_leader.proofs.lead.Lead.first_structure.Goals as goal

pub first_structure-requires : goal.first_structure-requires
first_structure-requires g c =
    let same : length c.args.self.now.promises ≡ length c.self.inside.reports.items =
    rw (← c.self.view_is) (length-counted c.self.inside.reports.items c.self.inside.throughs.items c.self.invariant) in
    rw c.deref.ensures.value (omega (arith, same, c.requires))

pub returns : goal.returns
returns g c facts holds =
    rw (← c.self.view_is, reports-counted c.self.inside.reports.items c.self.inside.throughs.items c.self.invariant, ← c.deref.ensures.value)
    (c.first_structure.ensures facts holds)
