use Rattle.std.proofs.Common.{◌≡◌, ◌+◌, drop, fold}
use Rattle.mdcc_audit.specs.Auditing.{fact_taken}
use Rattle.mdcc_audit.specs.Logs.{placed_log}
use Rattle.mdcc_audit.specs.Represents.{state_of}
use Rattle.mdcc_command_audit.specs.Audits.{facts_in}
use Rattle.mdcc_command_audit.proofs.logs.take_log.Given as goal

abbrev pub invariant-loop-index : goal.invariant-loop-index
invariant-loop-index l = record {
  state : fold (fact_taken l.initial.audit.quorums) (state_of l.audit) (placed_log l.centre (l.index + 1) (facts_in (drop l.index l.payloads)))
      ≡ fold (fact_taken l.initial.audit.quorums) (state_of l.initial.audit) (placed_log l.centre 1 (facts_in l.payloads));
  quorums : l.audit.quorums ≡ l.initial.audit.quorums;
}
