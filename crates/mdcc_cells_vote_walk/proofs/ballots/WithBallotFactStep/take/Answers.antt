use Rattle.std.proofs.Common.{ap, ◌∙◌}
use Rattle.mdcc_base.specs.Ballot.{ballot_max}
use Rattle.mdcc_base.specs.declared.identifiers.Ballot.{Ballot}
use Rattle.mdcc_cells_vote_walk.specs.Ballots.{voted_in}
use Rattle.mdcc_cells_vote_walk.proofs.Balloted.{voted-again}
use Rattle.mdcc_cells_vote_walk.proofs.ballots.WithBallotFactStep.take.Goals as goal

pub returns : goal.returns
returns c =
    let s = c.args.self.now in
    λ fact fits is.
    ap (λ (b : Ballot). record s { ballot = b })
    (c.ballot_max-self.ensures
    ∙ ap (λ (b : Ballot). ballot_max b s.ballot) (c.voted_in-voted.ensures ∙ ap (voted_in s.key s.version s.below) is ∙ voted-again s.key s.version s.below fact fits))
