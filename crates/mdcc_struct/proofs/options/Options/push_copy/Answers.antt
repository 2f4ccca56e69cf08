use Rattle.mdcc_struct.proofs.Entries.{AreEntries-pushed, marks_in-pushed}
use Rattle.mdcc_struct.proofs.options.Options.push_copy.Goals as goal

pub invariant_of-self-2 : goal.invariant_of-self-2
invariant_of-self-2 c =
    let accepted = c.self.inside.accepted.items in
    let entries = c.self.inside.entries.items in
    rw (c.in_ok-push.ensures.items, c.in_ok-place.ensures.ok, c.in_ok-place.ensures.place, c.try_reserve.ensures.items)
    (AreEntries-pushed accepted entries c.args.tx c.args.mark.now c.self.invariant.0 (rw c.self.view_is c.requires), c.self.invariant.1)

pub returns-clause-ok : goal.returns-clause-ok
returns-clause-ok c =
    let accepted = c.self.inside.accepted.items in
    let entries = c.self.inside.entries.items in
    rw (c.in_ok-push.ensures.items, c.in_ok-place.ensures.ok, c.in_ok-place.ensures.place, c.try_reserve.ensures.items, ← c.self.view_is)
    (marks_in-pushed accepted entries c.args.tx c.args.mark.now c.self.invariant.0)
