use Rattle.std.proofs.Common.{◌≡◌, ◌++◌, List, drop, map}
use Rattle.mdcc_base.specs.Sizes.{Sizes}
use Rattle.mdcc_learner.specs.Represents.{RepresentsVotes}
use Rattle.mdcc_manager.specs.Ticks.{unlearned_in}
use Rattle.mdcc_def_protocol.specs.Manager.{act_at}
use Rattle.mdcc_def_protocol.specs.declared.votes.Vote.{Vote}
use Rattle.mdcc_manager.proofs.ticks.add_acts.Given as goal

abbrev pub invariant-loop-entry : goal.invariant-loop-entry
invariant-loop-entry l =
    (quorums : Sizes) (votes : List Vote) → RepresentsVotes l.learner quorums votes
    → l.acts.items ++ map (act_at l.count) (unlearned_in quorums votes l.undecided.tx (drop l.entry-index l.entry-items))
    ≡ l.initial.acts.items ++ map (act_at l.count) (unlearned_in quorums votes l.undecided.tx l.entry-items)
