use Rattle.std.proofs.Common.{◌≡◌, List, length, map, take}
use Rattle.mdcc_learner.specs.Represents.{RepresentsVotes}
use Rattle.std.specs.Prelude.{option_map}
use Rattle.mdcc_def_protocol.specs.Marks.{is_accept}
use Rattle.mdcc_def_protocol.specs.Learner.{learned_with}
use Rattle.mdcc_def_protocol.specs.declared.votes.Vote.{Vote}
use Rattle.mdcc_manager.proofs.marks.sides_with.Given as goal

abbrev pub invariant-loop-open : goal.invariant-loop-open
invariant-loop-open l = record {
  read : (votes : List Vote) → RepresentsVotes l.learner l.quorums votes
      → l.sides ≡ map (λ entry. option_map is_accept (learned_with l.quorums votes l.vote l.tx entry.choice.key)) (take l.open-index l.choices);
  fits : length l.sides ≡ l.open-index;
}
