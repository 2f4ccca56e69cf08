use Rattle.std.proofs.Common.{Option, ap, ◌∙◌}
use Rattle.std.specs.Option.{option_or}
use Rattle.mdcc_base.specs.declared.identifiers.Ballot.{Ballot}
use Rattle.mdcc_option.specs.declared.choices.Mark.{Mark}
use Rattle.mdcc_cells_vote_walk.specs.Older.{vote_in}
use Rattle.mdcc_cells_vote_walk.proofs.Answered.{vote-in-again}
use Rattle.mdcc_cells_vote_walk.proofs.older.OlderVoteFactStep.take.Goals as goal

pub returns : goal.returns
returns c =
    let s = c.args.self.now in
    λ fact fits is.
    ap (λ (found : Option (Ballot × Mark)). record s { found = found })
    (c.keep_older.ensures
    ∙ ap (λ (older : Option (Ballot × Mark)). option_or older s.found) (c.vote_in-vote.ensures ∙ ap (vote_in s.key s.version s.tx s.found) is)
    ∙ vote-in-again s.key s.version s.tx s.found fact fits)
