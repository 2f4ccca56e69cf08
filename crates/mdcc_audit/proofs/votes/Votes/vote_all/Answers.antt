use Rattle.std.proofs.Common.{◌∙◌, sym}
use Rattle.mdcc_audit.specs.Votes.{vote_mark}
use Rattle.mdcc_audit.proofs.Walks.{fold-next}
use Rattle.mdcc_audit.proofs.votes.Votes.vote_all.Goals as goal

pub loop-i-preserved : goal.loop-i-preserved
loop-i-preserved c =
    let one = vote_mark c.args.quorums.now c.args.centre c.args.key.now c.args.version c.args.ballot.now in
    rw (c.in_ok-vote.ensures, c.in_vote-subject.ensures, c.given_of-given.ensures)
    (sym (fold-next one _ c.args.options.now c.loop-i.i _ c.at-tx.ensures) ∙ c.loop-i.invariant)
