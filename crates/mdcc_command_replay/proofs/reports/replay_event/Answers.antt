use Rattle.std.proofs.lemmas.Result.{err_from_is_err_and}
use Rattle.mdcc_def_simulation.specs.Events.{after_event}
use Rattle.mdcc_command_replay.proofs.Events.{event_failed, event_written}
use Rattle.mdcc_command_replay.proofs.reports.replay_event.Goals as goal

pub returns-in_err-write_text-in-Ok-clause-written : goal.returns-in_err-write_text-in-Ok-clause-written
returns-in_err-write_text-in-Ok-clause-written g c = λ w cluster lines s.
    let p = err_from_is_err_and c.from_residual.result c.from_residual.ensures.1 in
    rw p.1 (event_failed (λ v. g.W.Simulation.stands c.event_text.new.world v) (g.O.Sink.held c.args.out.now) (g.O.Sink.held c.write_text.new.out) cluster c.args.number w lines c.in-Ok.text.items (after_event w c.args.event.now)
    (c.in-Ok.ensures.ok w s) (rw c.as_slice.ensures.value at c.in_err-write_text-in-Ok.ensures.front))

pub returns-in_ok-write_text-in-Ok-clause-written : goal.returns-in_ok-write_text-in-Ok-clause-written
returns-in_ok-write_text-in-Ok-clause-written g c = λ w cluster lines s.
    event_written (λ v. g.W.Simulation.stands c.event_text.new.world v) (g.O.Sink.held c.args.out.now) (g.O.Sink.held c.write_text.new.out) cluster c.args.number w lines c.in-Ok.text.items (after_event w c.args.event.now)
    (c.in-Ok.ensures.ok w s) (rw c.as_slice.ensures.value at c.in_ok-write_text-in-Ok.ensures.all)
