use Rattle.std.proofs.Common.{◌<◌, ◌++◌, arith}
use Rattle.mdcc_base.specs.Counts.{number_of}
use Rattle.mdcc_base.specs.Quorums.{quorum_size}
use Rattle.mdcc_learner.specs.Decided.{is_alike}
use Rattle.mdcc_learner.proofs.Lists.{number_of-append, number_of-most, too-few}
use Rattle.mdcc_learner.proofs.counting.has_quorum.Goals as goal

pub returns : goal.returns
returns c = let both = number_of-append (is_alike c.args.vote.now) c.args.votes.now c.args.more.now in cc

pub returns-then-votes-more : goal.returns-then-votes-more
returns-then-votes-more c =
    let alike = is_alike c.args.vote.now in
    let all = c.args.votes.now ++ c.args.more.now in
    let both = number_of-append alike c.args.votes.now c.args.more.now in
    let first = number_of-most alike c.args.votes.now in
    let second = number_of-most alike c.args.more.now in
    let few : number_of alike all < quorum_size c.args.quorums.now c.args.vote.now.ballot =
    omega (arith, both, first, second, c.if-votes-more.true, c.quorum_size-least.ensures) in
    too-few (quorum_size c.args.quorums.now c.args.vote.now.ballot) (number_of alike all) few
