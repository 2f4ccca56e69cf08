use Rattle.std.proofs.Common.{◌+◌, ◌≤◌, length}
use Rattle.mdcc_def_language.specs.Lines.{lines_in}
use Rattle.mdcc_def_simulation.specs.Replay.{lines_replayed}
use Rattle.mdcc_def_simulation.specs.State.{World}
use Rattle.mdcc_command_replay.specs.Writing.{Reached}
use Rattle.mdcc_command_replay.proofs.reports.replay_lines.Given as goal

abbrev pub invariant-loop-rest : goal.invariant-loop-rest
invariant-loop-rest g l = record {
  reached : (w : World) → g.W.Simulation.stands l.initial.world w
      → Reached (λ mid. g.W.Simulation.stands l.world mid) (g.O.Sink.held l.initial.out) (g.O.Sink.held l.out) (lines_replayed l.cluster l.initial.number w (lines_in l.initial.rest)) (λ mid. lines_replayed l.cluster l.number mid (lines_in l.rest));
  known : (mid : World) × g.W.Simulation.stands l.world mid;
  counted : l.number + length l.rest ≤ l.initial.number + length l.initial.rest;
  later : g.O.Sink.faults l.initial.out ≤ g.O.Sink.faults l.out;
}

abbrev pub decreases-loop-rest : goal.decreases-loop-rest
decreases-loop-rest g l = length l.rest
