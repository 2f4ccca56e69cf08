use Rattle.std.proofs.Common.{◌≡◌, drop, fold}
use Rattle.mdcc_def_protocol.specs.Structures.{with_choice}
use Rattle.mdcc_leader_structures.specs.Marked.{claims_of}
use Rattle.mdcc_leader_structures.proofs.reported.add_reported.Given as goal

abbrev pub invariant-loop-place : goal.invariant-loop-place
invariant-loop-place l = fold with_choice l.claims (claims_of (drop l.place l.report.votes)) ≡ fold with_choice l.fn.claims (claims_of l.report.votes)
