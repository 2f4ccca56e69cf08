use Rattle.std.proofs.Common.{◌≡◌, ◌+◌, drop, fold}
use Rattle.mdcc_audit.specs.Auditing.{fact_taken}
use Rattle.mdcc_audit.specs.Logs.{placed_log}
use Rattle.mdcc_audit.specs.Represents.{state_of}
use Rattle.mdcc_audit.proofs.logs.take_log.Given as goal

abbrev pub invariant-loop-i : goal.invariant-loop-i
invariant-loop-i l = record {
  state : fold (fact_taken l.initial.audit.quorums) (state_of l.audit) (placed_log l.centre (l.i + 1) (drop l.i l.log))
      ≡ fold (fact_taken l.initial.audit.quorums) (state_of l.initial.audit) (placed_log l.centre 1 l.log);
  quorums : l.audit.quorums ≡ l.initial.audit.quorums;
}
