use Rattle.std.proofs.Common.{◌++◌}
use Rattle.mdcc_learner.proofs.Lists.{lowest_backed}
use Rattle.mdcc_learner.proofs.decided.deciding_vote.Goals as goal

pub returns : goal.returns
returns c =
    let quorums = c.args.quorums.now in
    let all = c.args.votes.now ++ c.args.more.now in
    rw (lowest_backed quorums all c.args.votes.now c.args.more.now, ← c.lowest_backed-lowest.ensures) c.lowest_backed.ensures
