use Rattle.std.proofs.Common.{◌≡◌, ◌++◌, List, drop, map, take}
use Rattle.mdcc_base.specs.Sizes.{Sizes}
use Rattle.mdcc_learner.specs.Represents.{RepresentsVotes}
use Rattle.mdcc_manager.specs.Ticks.{ticked_in}
use Rattle.mdcc_def_protocol.specs.declared.votes.Vote.{Vote}
use Rattle.mdcc_manager.proofs.ticks.count_tick.Given as goal

abbrev pub invariant-loop-open : goal.invariant-loop-open
invariant-loop-open l =
    (quorums : Sizes) (votes : List Vote) → RepresentsVotes l.learner quorums votes
    → l.open-items ≡ map (ticked_in quorums votes) (take l.open-index l.initial.open-items) ++ drop l.open-index l.initial.open-items
