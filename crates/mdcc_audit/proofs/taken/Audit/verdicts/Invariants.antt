use Rattle.std.proofs.Common.{◌≡◌, ◌++◌, map}
use Rattle.mdcc_audit.specs.Represents.{state_of}
use Rattle.mdcc_audit.proofs.Ends.{with_verdict}
use Rattle.mdcc_audit.proofs.taken.Audit.verdicts.Given as goal

abbrev pub invariant-loop-tx : goal.invariant-loop-tx
invariant-loop-tx l = l.verdicts ++ map (with_verdict (state_of l.self)) l.tx-iterator ≡ map (with_verdict (state_of l.self)) l.self.named.keys
