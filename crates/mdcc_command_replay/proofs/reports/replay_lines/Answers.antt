use Rattle.std.proofs.Common.{arith}
use Rattle.std.proofs.lemmas.Result.{err_from_is_err_and}
use Rattle.mdcc_def_language.specs.Lines.{lines_in}
use Rattle.mdcc_def_simulation.specs.Replay.{lines_replayed}
use Rattle.mdcc_def_simulation.specs.State.{World}
use Rattle.mdcc_command_replay.proofs.Splits.{none_left}
use Rattle.mdcc_command_replay.proofs.Taken.{all_taken, last_taken, line_taken}
use Rattle.mdcc_command_replay.proofs.reports.replay_lines.Goals as goal

pub returns-in_err-refusal-clause-written : goal.returns-in_err-refusal-clause-written
returns-in_err-refusal-clause-written g c = λ w s.
    let taken = line_taken (λ v. g.W.Simulation.stands c.loop-rest.world v) (λ v. g.W.Simulation.stands c.replay_line.new.world v) (g.O.Sink.held c.args.out.now) (g.O.Sink.held c.loop-rest.out) (g.O.Sink.held c.replay_line.new.out) c.args.cluster.now c.loop-rest.number
    (lines_in c.loop-rest.rest.now) c.split_line.result.0.now (lines_in c.split_line.result.1.now) (lines_replayed c.args.cluster.now c.args.first w (lines_in c.args.text.now)) c.replay_line.result
    c.split_line.ensures.lines (c.loop-rest.invariant.reached w s) c.replay_line.ensures.written in
    let p = err_from_is_err_and c.from_residual.result c.from_residual.ensures.1 in
    rw p.1 (rw c.in_err-refusal.was at taken)

pub returns-in-Some-clause-written : goal.returns-in-Some-clause-written
returns-in-Some-clause-written g c = λ w s.
    let taken = line_taken (λ v. g.W.Simulation.stands c.loop-rest.world v) (λ v. g.W.Simulation.stands c.replay_line.new.world v) (g.O.Sink.held c.args.out.now) (g.O.Sink.held c.loop-rest.out) (g.O.Sink.held c.replay_line.new.out) c.args.cluster.now c.loop-rest.number
    (lines_in c.loop-rest.rest.now) c.split_line.result.0.now (lines_in c.split_line.result.1.now) (lines_replayed c.args.cluster.now c.args.first w (lines_in c.args.text.now)) c.replay_line.result
    c.split_line.ensures.lines (c.loop-rest.invariant.reached w s) c.replay_line.ensures.written in
    rw (c.in_ok-refusal.was, c.in-Some.is) at taken

pub loop-rest-preserved : goal.loop-rest-preserved
loop-rest-preserved g c =
    let taken = λ (w : World) (s : g.W.Simulation.stands c.args.world.now w).
    line_taken (λ v. g.W.Simulation.stands c.loop-rest.world v) (λ v. g.W.Simulation.stands c.replay_line.new.world v) (g.O.Sink.held c.args.out.now) (g.O.Sink.held c.loop-rest.out) (g.O.Sink.held c.replay_line.new.out) c.args.cluster.now c.loop-rest.number
    (lines_in c.loop-rest.rest.now) c.split_line.result.0.now (lines_in c.split_line.result.1.now) (lines_replayed c.args.cluster.now c.args.first w (lines_in c.args.text.now)) c.replay_line.result
    c.split_line.ensures.lines (c.loop-rest.invariant.reached w s) c.replay_line.ensures.written in
    let here = rw (c.in_ok-refusal.was, c.in_default.is) at (taken c.requires.known.0 c.requires.known.1) in
    record {
      reached = λ w s. rw (c.in_ok-refusal.was, c.in_default.is) at (taken w s);
      known = (here.world, here.stands);
      counted = omega (arith, c.split_line.ensures.shorter, c.loop-rest.invariant.counted);
      later = omega (arith, c.replay_line.ensures.later, c.loop-rest.invariant.later);
    }

pub returns-clause-written : goal.returns-clause-written
returns-clause-written g c = λ w s.
    all_taken (λ v. g.W.Simulation.stands c.loop-rest.world v) (g.O.Sink.held c.args.out.now) (g.O.Sink.held c.loop-rest.out) (g.O.Sink.held c.write_end.new.out) c.args.cluster.now c.loop-rest.number (lines_in c.loop-rest.rest.now)
    (lines_replayed c.args.cluster.now c.args.first w (lines_in c.args.text.now)) c.write_end.result (none_left c.loop-rest.rest.now c.loop-rest-test.ensures) (c.loop-rest.invariant.reached w s) c.write_end.ensures.written

pub returns-clause-last : goal.returns-clause-last
returns-clause-last g c = λ w s e.
    last_taken (λ v. g.W.Simulation.stands c.loop-rest.world v) (g.O.Sink.held c.args.out.now) (g.O.Sink.held c.loop-rest.out) c.args.cluster.now c.loop-rest.number (lines_in c.loop-rest.rest.now)
    (lines_replayed c.args.cluster.now c.args.first w (lines_in c.args.text.now)) (none_left c.loop-rest.rest.now c.loop-rest-test.ensures) (c.loop-rest.invariant.reached w s)
