use Rattle.std.proofs.Common.{◌≡◌, List, length, map, take}
use Rattle.mdcc_learner.specs.Represents.{RepresentsVotes}
use Rattle.mdcc_def_protocol.specs.Learner.{learned_with}
use Rattle.mdcc_def_protocol.specs.declared.votes.Vote.{Vote}
use Rattle.mdcc_manager.proofs.marks.marks_with.Given as goal

abbrev pub invariant-loop-open : goal.invariant-loop-open
invariant-loop-open l = record {
  read : (votes : List Vote) → RepresentsVotes l.learner l.quorums votes
      → l.marks ≡ map (λ entry. learned_with l.quorums votes l.vote l.tx entry.choice.key) (take l.open-index l.choices);
  fits : length l.marks ≡ l.open-index;
}
