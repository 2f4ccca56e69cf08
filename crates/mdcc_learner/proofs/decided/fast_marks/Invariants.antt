use Rattle.std.proofs.Common.{◌≡◌, ◌≤◌, ◌+◌, drop, length, not}
use Rattle.mdcc_base.specs.Counts.{number_of}
use Rattle.mdcc_learner.specs.Decided.{fast_votes}
use Rattle.mdcc_def_protocol.specs.Marks.{is_accept}
use Rattle.mdcc_learner.proofs.decided.fast_marks.Given as goal

abbrev pub invariant-loop-vote : goal.invariant-loop-vote
invariant-loop-vote l = record {
  accepts : l.accepts + number_of (λ vote. is_accept vote.mark) (fast_votes (drop l.vote-index l.votes)) ≡ number_of (λ vote. is_accept vote.mark) (fast_votes l.votes);
  rejects : l.rejects + number_of (λ vote. not (is_accept vote.mark)) (fast_votes (drop l.vote-index l.votes)) ≡ number_of (λ vote. not (is_accept vote.mark)) (fast_votes l.votes);
  all : l.accepts + l.rejects + length (fast_votes (drop l.vote-index l.votes)) ≡ length (fast_votes l.votes);
  bound : l.accepts + l.rejects ≤ l.vote-index;
}
