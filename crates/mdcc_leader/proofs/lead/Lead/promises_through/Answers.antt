use Rattle.std.proofs.Common.{◌≡◌}
use Rattle.mdcc_leader.proofs.Promised.{through-counted}
use Rattle.mdcc_leader.proofs.lead.Lead.promises_through.Goals as goal

pub returns : goal.returns
returns c =
    rw (← c.self.view_is, through-counted c.self.inside.reports.items c.self.inside.throughs.items c.args.version c.self.invariant, ← c.deref.ensures.value)
    c.number_through.ensures
