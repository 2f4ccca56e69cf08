use Rattle.std.proofs.Common.{◌<◌, ◌+◌, arith}
use Rattle.mdcc_def_messages.specs.declared.messages.Message.{Message}
use Rattle.mdcc_node_sends.proofs.Ranges.{next_told}
use Rattle.mdcc_node_sends.proofs.sends.ask_others.Goals as goal

pub loop-to-preserved : goal.loop-to-preserved
loop-to-preserved c =
    let within : c.loop-to.to < c.args.quorums.now.centres + 1 = omega (arith, c.loop-to-test.true, c.centres-to-end.ensures.value) in
    rw (c.in_ok-ask.ensures, next_told c.loop-to.sends c.args.from (Message.SyncAsk c.args.key.now) c.loop-to.to (c.args.quorums.now.centres + 1) within)
    c.loop-to.invariant
