use Rattle.mdcc_command_replay.proofs.Events.{line_happened}
use Rattle.mdcc_command_replay.proofs.reports.replay_line.Goals as goal

pub returns-in-Ok-Some-clause-written : goal.returns-in-Ok-Some-clause-written
returns-in-Ok-Some-clause-written g c = λ w lines s.
    line_happened (λ v. g.W.Simulation.stands c.replay_event.new.world v) (g.O.Sink.held c.args.out.now) (g.O.Sink.held c.replay_event.new.out) c.args.cluster.now c.args.number w c.args.line.now lines c.in-Ok-Some.event c.replay_event.result
    (rw c.in-Ok-Some.field-0-is at c.in-Ok-Some.ensures) (c.replay_event.ensures.written w c.args.cluster.now lines s)
