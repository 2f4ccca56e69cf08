use Rattle.std.proofs.Common.{◌≡◌}
use Rattle.mdcc_leader.proofs.Promised.{from-counted}
use Rattle.mdcc_leader.proofs.lead.Lead.has_promise_of.Goals as goal

pub returns : goal.returns
returns c =
    rw (← c.self.view_is, from-counted c.self.inside.reports.items c.self.inside.throughs.items c.args.from c.self.invariant, ← c.deref.ensures.value) c.is_of_one.ensures
