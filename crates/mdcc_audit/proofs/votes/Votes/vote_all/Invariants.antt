use Rattle.std.proofs.Common.{◌≡◌, drop, fold}
use Rattle.mdcc_audit.specs.Represents.{counted_in}
use Rattle.mdcc_audit.specs.Votes.{vote_mark}
use Rattle.mdcc_audit.proofs.votes.Votes.vote_all.Given as goal

abbrev pub invariant-loop-i : goal.invariant-loop-i
invariant-loop-i l =
    let one = vote_mark l.quorums l.centre l.key l.version l.ballot in
    fold one (counted_in l.self) (drop l.i l.options) ≡ fold one (counted_in l.initial.self) l.options
