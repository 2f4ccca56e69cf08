use Rattle.std.proofs.Common.{◌≡◌, List, length, map, take}
use Rattle.mdcc_learner.specs.Represents.{RepresentsVotes}
use Rattle.mdcc_def_protocol.specs.Learner.{learned, with_counted_vote}
use Rattle.mdcc_def_protocol.specs.declared.votes.Vote.{Vote}
use Rattle.mdcc_recover.proofs.marks.marks_with.Given as goal

abbrev pub invariant-loop-entry : goal.invariant-loop-entry
invariant-loop-entry l = record {
  read : (votes : List Vote) → RepresentsVotes l.learner l.quorums votes
      → l.marks ≡ map (learned l.quorums (with_counted_vote l.quorums votes l.vote) l.vote.tx) (map (λ e. e.0) (take l.entry-index l.write_set));
  fits : length l.marks ≡ l.entry-index;
}
