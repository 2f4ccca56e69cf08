use Rattle.std.proofs.Common.{Bool, ℕ, ◌+◌, ◌-◌, ◌^◌, ap, ◌∙◌}
use Rattle.std.specs.Prelude.{is_some, min}
use Rattle.mdcc_base.specs.Counts.{number_of}
use Rattle.mdcc_struct.specs.Maps.{TxMap, value_of}
use Rattle.mdcc_def_protocol.specs.Facts.{marks_voted}
use Rattle.mdcc_cells_vote_walk.specs.Tags.{tags_at}
use Rattle.mdcc_cells_vote_walk.proofs.Tallied.{marks-ascend, number-common, tags-at-again}
use Rattle.mdcc_cells_vote_walk.proofs.tallies.WithCountFactStep.take.Goals as goal

pub returns : goal.returns
returns c =
    let s = c.args.self.now in
    λ fact fits is.
    ap (λ (count : ℕ). record s { count = count })
    (c.with_common-self.ensures
    ∙ ap (λ (tags : TxMap Bool). min (s.count + number_of (λ tag. is_some (value_of s.options.now tag.0)) tags) (2 ^ 64 - 1))
    (c.tags_at-tags.ensures ∙ ap (tags_at s.key s.version s.ballot) is ∙ tags-at-again s.key s.version s.ballot fact fits)
    ∙ ap (λ (n : ℕ). min (s.count + n) (2 ^ 64 - 1))
    (number-common s.options.now (marks_voted s.key s.version s.ballot fact) c.len-most.ensures.ascending (marks-ascend s.key s.version s.ballot fact fits)))
