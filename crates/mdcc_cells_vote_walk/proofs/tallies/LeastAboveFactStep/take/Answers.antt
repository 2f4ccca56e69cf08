use Rattle.std.proofs.Common.{Bool, Option, ap, ◌∙◌}
use Rattle.mdcc_base.specs.declared.identifiers.TxId.{TxId}
use Rattle.mdcc_struct.specs.Maps.{TxMap}
use Rattle.mdcc_def_protocol.specs.Facts.{marks_voted}
use Rattle.mdcc_facts.specs.Walks.{each_kept, is_next_tx, least_from}
use Rattle.mdcc_cells_vote_walk.specs.Tags.{tags_at}
use Rattle.mdcc_cells_vote_walk.proofs.Tallied.{least-of-tags, tags-at-again}
use Rattle.mdcc_cells_vote_walk.proofs.tallies.LeastAboveFactStep.take.Goals as goal

pub returns : goal.returns
returns c =
    let s = c.args.self.now in
    λ fact fits is.
    ap (λ (found : Option TxId). record s { found = found })
    (c.least_from-self.ensures
    ∙ ap (λ (tags : TxMap Bool). least_from (is_next_tx each_kept s.last) s.found tags)
    (c.tags_at-tags.ensures ∙ ap (tags_at s.key s.version s.ballot) is ∙ tags-at-again s.key s.version s.ballot fact fits)
    ∙ least-of-tags (is_next_tx each_kept s.last) s.found (marks_voted s.key s.version s.ballot fact))
