use Rattle.std.proofs.lemmas.Result.{err_from_is_err_and}
use Rattle.mdcc_def_simulation.specs.State.{first_world}
use Rattle.mdcc_command_replay.proofs.Inputs.{behind_last, behind_written, cluster_given, header_failed}
use Rattle.mdcc_def_simulation.specs.Replay.{replay_of}
use Rattle.mdcc_command_replay.proofs.Taken.{left_last, left_written}
use Rattle.mdcc_command_replay.proofs.reports.replay_after_header.Goals as goal

pub start-requires : goal.start-requires
start-requires g c =
    rw c.copy.ensures
    (cluster_given c.args.input.now c.args.cluster.now c.args.end c.args.first c.requires.header c.types_hold.ensures.quorums c.types_hold.ensures.schema)

pub returns-in_err-write_text-clause-written : goal.returns-in_err-write_text-clause-written
returns-in_err-write_text-clause-written g c =
    let p = err_from_is_err_and c.from_residual-in_err-write_text.result c.from_residual-in_err-write_text.ensures.1 in
    rw p.1 (header_failed (g.O.Sink.held c.args.out.now) (g.O.Sink.held c.write_text.new.out) c.args.input.now c.args.cluster.now c.args.end c.args.first c.requires.short c.requires.header
    (rw (c.as_slice.ensures.value, c.in_ok-header.ensures) at c.in_err-write_text.ensures.front))

pub returns-clause-written : goal.returns-clause-written
returns-clause-written g c =
    left_written (g.O.Sink.held c.args.out.now) (g.O.Sink.held c.replay_lines-replayed.new.out) (replay_of c.args.input.now) c.replay_lines-replayed.result c.replay_lines-replayed.new.world c.left_by.result c.left_by.ensures
    (behind_written (g.O.Sink.held c.args.out.now) (g.O.Sink.held c.write_text.new.out) (g.O.Sink.held c.replay_lines-replayed.new.out) c.args.input.now c.args.cluster.now c.args.end c.args.first c.replay_lines-replayed.result c.requires.short c.requires.header
    (rw (c.as_slice.ensures.value, c.in_ok-header.ensures) at c.in_ok-write_text.ensures.all)
    (rw c.behind.ensures.value at (c.replay_lines-replayed.ensures.written (first_world c.args.cluster.now) (rw c.copy.ensures at c.in_ok-world.ensures))))

pub returns-clause-last : goal.returns-clause-last
returns-clause-last g c =
    left_last (λ world w. g.W.Simulation.stands world w) (replay_of c.args.input.now) c.replay_lines-replayed.result c.replay_lines-replayed.new.world c.left_by.result c.left_by.ensures
    (λ e. behind_last (λ w. g.W.Simulation.stands c.replay_lines-replayed.new.world w) c.args.input.now c.args.cluster.now c.args.end c.args.first c.requires.short c.requires.header
    (rw c.behind.ensures.value at (c.replay_lines-replayed.ensures.last (first_world c.args.cluster.now) (rw c.copy.ensures at c.in_ok-world.ensures) e)))
