use Rattle.std.proofs.Common.{◌≡◌, None, Some, ap, rules, ◌∙◌}
use Rattle.mdcc_struct.specs.Maps.{value_of}
use Rattle.mdcc_struct.specs.Options.{Marks}
use Rattle.mdcc_cells_vote_walk.specs.Gathered.{mark_ranked}
use Rattle.mdcc_cells_vote_walk.proofs.Picked.{put-one}
use Rattle.mdcc_cells_vote_walk.proofs.gathered.GatheredMarks.put.Goals as goal

pub returns-in_ok-insert : goal.returns-in_ok-insert
returns-in_ok-insert c t =
    let none : value_of c.args.votes.now c.args.tx ≡ None = search rules in
    let some : mark_ranked c.args.self.now c.args.rank ≡ Some c.in-Some.mark = cc in
    ap (λ (votes : Marks). value_of votes t) c.in_ok-insert.ensures.ok
    ∙ put-one c.args.votes.now c.args.self.now c.args.tx t c.args.rank c.in-Some.mark none some
