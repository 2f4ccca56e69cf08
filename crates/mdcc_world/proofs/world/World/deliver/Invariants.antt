use Rattle.std.proofs.Common.{◌≤◌, drop}
use Rattle.mdcc_def_simulation.specs.State.{World}
use Rattle.mdcc_world.proofs.Delivering.{HasDelivered}
use Rattle.mdcc_world.specs.Represents.{IsLike, IsLikeSome}
use Rattle.mdcc_world.proofs.world.World.deliver.Given as goal

abbrev pub invariant-loop-number : goal.invariant-loop-number
invariant-loop-number l = record {
  few : l.self.events ≤ 100000;
  some : IsLikeSome l.self;
  has : (w : World) → IsLike l.fn.self w → HasDelivered l.self l.fn.lines l.lines w l.numbers (drop l.number-index l.numbers);
}
