use Rattle.std.proofs.Common.{◌≡◌, ◌≤◌, ◌+◌, drop}
use Rattle.mdcc_base.specs.Counts.{number_of}
use Rattle.mdcc_learner.specs.Decided.{is_alike}
use Rattle.mdcc_learner.proofs.counting.number_alike.Given as goal

abbrev pub invariant-loop-other : goal.invariant-loop-other
invariant-loop-other l = record {
  value : l.count + number_of (is_alike l.vote) (drop l.other-index l.votes) ≡ number_of (is_alike l.vote) l.votes;
  bound : l.count ≤ l.other-index;
}
