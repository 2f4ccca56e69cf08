use Rattle.std.proofs.Common.{◌≤◌, length, arith}
use Rattle.mdcc_command_replay.proofs.Inputs.{header_refused}
use Rattle.mdcc_command_replay.proofs.reports.replay_to_end.Goals as goal

pub returns-in-Err-clause-written : goal.returns-in-Err-clause-written
returns-in-Err-clause-written g c =
    let short : length c.args.input.now ≤ 67108864 = omega arith in
    header_refused (g.O.Sink.held c.args.out.now) c.args.input.now c.in-Err.fault short c.in-Err.ensures.value
