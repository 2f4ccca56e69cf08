use Rattle.std.proofs.Common.{◌∷◌, sym, ap, ◌∙◌, arith}
use Rattle.mdcc_cells_vote_walk.proofs.Tagged.{tags_next}
use Rattle.mdcc_cells_vote_walk.proofs.tags.Tags.next.Goals as goal

pub returns-in-Some-clause-some : goal.returns-in-Some-clause-some
returns-in-Some-clause-some c =
    sym c.self.view_is
    ∙ tags_next c.self.inside.left c.self.inside.cursor c.in-Some.tag (omega arith) (cc)
    ∙ ap (λ tags. c.in-Some.tag ∷ tags) (sym c.skip_to_next.ensures.tags)
