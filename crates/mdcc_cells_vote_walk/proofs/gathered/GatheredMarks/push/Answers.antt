use Rattle.mdcc_cells_vote_walk.proofs.MarksGathered.{listed-more}
use Rattle.mdcc_cells_vote_walk.proofs.gathered.GatheredMarks.push.Goals as goal

pub returns : goal.returns
returns c =
    rw (c.in_ok-push.ensures.items, c.in_ok-place.ensures.place, c.in_ok-place.ensures.ok, ← c.self.view_is)
    (listed-more c.self.inside.accepted.items c.args.entry.1 c.self.inside.places.items c.args.entry.0 c.self.invariant)
