use Rattle.std.proofs.Common.{◌∙◌, arith, sym}
use Rattle.mdcc_audit.specs.Represents.{state_of}
use Rattle.mdcc_command_audit.proofs.Facts.{payload_next, payloads_end}
use Rattle.mdcc_command_dump.proofs.Facts.{fact_at}
use Rattle.mdcc_command_audit.proofs.logs.take_log.Goals as goal

pub take_payload-requires : goal.take_payload-requires
take_payload-requires c = fact_at c.args.payloads.now c.loop-index.index c.payload_at.result.now c.payload_at.ensures c.requires

pub loop-index-preserved : goal.loop-index-preserved
loop-index-preserved c =
    let before = c.loop-index.invariant in
    let is = rw before.quorums at c.in_ok-take_payload.ensures.state in
    record {
      state = sym (payload_next c.args.audit.now.quorums (state_of c.loop-index.audit) (state_of c.take_payload.new.audit) c.args.centre c.loop-index.index c.args.payloads.now c.payload_at.result.now
          c.requires c.payload_at.ensures is) ∙ before.state;
      quorums = c.in_ok-take_payload.ensures.quorums ∙ before.quorums;
    }

pub returns-clause-state : goal.returns-clause-state
returns-clause-state c =
    payloads_end c.args.audit.now.quorums (state_of c.loop-index.audit) _ c.args.centre c.loop-index.index c.args.payloads.now (omega arith) c.loop-index.invariant.state
