use Rattle.std.proofs.Common.{◌≡◌, List, length, map, take}
use Rattle.mdcc_base.specs.Sizes.{Sizes}
use Rattle.mdcc_learner.specs.Represents.{RepresentsVotes}
use Rattle.std.specs.Prelude.{option_map}
use Rattle.mdcc_def_protocol.specs.Marks.{is_accept}
use Rattle.mdcc_def_protocol.specs.Learner.{learned}
use Rattle.mdcc_def_protocol.specs.declared.votes.Vote.{Vote}
use Rattle.mdcc_manager.proofs.marks.sides_learned.Given as goal

abbrev pub invariant-loop-open : goal.invariant-loop-open
invariant-loop-open l = record {
  read : (quorums : Sizes) (votes : List Vote) → RepresentsVotes l.learner quorums votes
      → l.sides ≡ map (λ entry. option_map is_accept (learned quorums votes l.tx entry.choice.key)) (take l.open-index l.choices);
  fits : length l.sides ≡ l.open-index;
}
