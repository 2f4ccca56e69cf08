use Rattle.std.proofs.Common.{◌≡◌, drop, filter_map}
use Rattle.std.specs.List.{reduce}
use Rattle.mdcc_def_protocol.specs.Recover.{choice_accepted}
use Rattle.mdcc_learner.proofs.accepted.first_accepted.Given as goal

abbrev pub invariant-loop-vote : goal.invariant-loop-vote
invariant-loop-vote l =
    reduce (λ a b. a) (filter_map (choice_accepted l.version) (drop l.vote-index l.votes)) ≡ reduce (λ a b. a) (filter_map (choice_accepted l.version) l.votes)
