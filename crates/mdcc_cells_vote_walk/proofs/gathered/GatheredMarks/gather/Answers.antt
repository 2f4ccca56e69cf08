use Rattle.std.proofs.Common.{◌≡◌, ◌++◌, ap, subst, ◌∙◌}
use Rattle.std.specs.Prelude.{OnOk}
use Rattle.mdcc_struct.specs.Options.{Marks}
use Rattle.mdcc_cells_vote_walk.specs.Gathered.{marks_at}
use Rattle.mdcc_cells_vote_walk.proofs.MarksGathered.{marks-at-again}
use Rattle.mdcc_cells_vote_walk.proofs.gathered.GatheredMarks.gather.Goals as goal

pub returns : goal.returns
returns c fact fits is =
    subst (λ (marks : Marks). OnOk c.push_voted.result (c.push_voted.new.self ≡ c.args.self.now ++ marks))
    (ap (marks_at c.args.key.now c.args.version c.args.ballot.now) is ∙ marks-at-again c.args.key.now c.args.version c.args.ballot.now fact fits)
    c.push_voted.ensures
