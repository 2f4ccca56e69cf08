use Rattle.std.proofs.Common.{◌+◌, ◌<◌, ◌≤◌, List}
use Rattle.mdcc_def_simulation.specs.State.{World}
use Rattle.mdcc_def_language.specs.declared.lines.Line.{Line}
use Rattle.mdcc_world.specs.SettleEnd.{HasSettled}
use Rattle.mdcc_world.specs.Represents.{HasHappened, IsLikeSome}
use Rattle.mdcc_theorem_worlds.specs.SettleProgress.{settle_reported}
use Rattle.mdcc_world.proofs.world.World.settle_for.Given as goal

abbrev pub invariant-loop-deliveries : goal.invariant-loop-deliveries
invariant-loop-deliveries l = record {
  events : l.self.events ≤ l.fn.self.events + l.deliveries;
  some : IsLikeSome l.self;
  has : (w : World) (before : List Line) → w.events < 100000 → HasHappened l.fn.self before l.fn.lines (settle_reported w l.listed)
      → HasSettled l.self before l.lines w l.listed l.deliveries;
}
