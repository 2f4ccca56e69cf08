use Rattle.std.proofs.Common.{◌≡◌, ◌++◌, drop, fold}
use Rattle.std.specs.Option.{option_copied}
use Rattle.mdcc_learner.specs.Decided.{lower_with, votes_backed}
use Rattle.mdcc_learner.proofs.decided.lowest_backed.Given as goal

abbrev pub invariant-loop-vote : goal.invariant-loop-vote
invariant-loop-vote l =
    fold lower_with (option_copied l.lowest) (votes_backed l.quorums (l.all.0.now ++ l.all.1.now) (drop l.vote-index l.votes))
    ≡ fold lower_with (option_copied l.initial.lowest) (votes_backed l.quorums (l.all.0.now ++ l.all.1.now) l.votes)
