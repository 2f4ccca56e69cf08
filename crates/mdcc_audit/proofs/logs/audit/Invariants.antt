use Rattle.std.proofs.Common.{◌≡◌, ◌+◌, drop, fold}
use Rattle.mdcc_audit.specs.Auditing.{fact_taken, nothing_taken}
use Rattle.mdcc_audit.specs.Logs.{placed_from}
use Rattle.mdcc_audit.specs.Represents.{state_of}
use Rattle.mdcc_audit.proofs.logs.audit.Given as goal

abbrev pub invariant-loop-i : goal.invariant-loop-i
invariant-loop-i l = record {
  state : fold (fact_taken l.cluster.quorums) (state_of l.audit) (placed_from (l.i + 1) (drop l.i l.logs))
      ≡ fold (fact_taken l.cluster.quorums) nothing_taken (placed_from 1 l.logs);
  quorums : l.audit.quorums ≡ l.cluster.quorums;
}
