use Rattle.std.proofs.Common.{◌≡◌, ◌++◌, List, drop}
use Rattle.std.specs.Prelude.{flat_map}
use Rattle.mdcc_base.specs.Sizes.{Sizes}
use Rattle.mdcc_learner.specs.Represents.{RepresentsVotes}
use Rattle.mdcc_manager.specs.Ticks.{acts_in}
use Rattle.mdcc_def_protocol.specs.declared.votes.Vote.{Vote}
use Rattle.mdcc_manager.proofs.ticks.acts_of.Given as goal

abbrev pub invariant-loop-open : goal.invariant-loop-open
invariant-loop-open l =
    (quorums : Sizes) (votes : List Vote) → RepresentsVotes l.learner quorums votes
    → l.acts.items ++ flat_map (acts_in quorums votes) (drop l.open-index l.opened) ≡ flat_map (acts_in quorums votes) l.opened
