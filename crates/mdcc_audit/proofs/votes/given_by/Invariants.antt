use Rattle.std.proofs.Common.{◌≡◌, drop}
use Rattle.mdcc_audit.specs.Votes.{given_by}
use Rattle.mdcc_audit.proofs.votes.given_by.Given as goal

abbrev pub invariant-loop-given : goal.invariant-loop-given
invariant-loop-given l = given_by (drop l.given-index l.tally) l.centre ≡ given_by l.tally l.centre
