use Rattle.std.proofs.Common.{◌-◌}
use Rattle.mdcc_world.proofs.Named.{AreAskedTo}
use Rattle.mdcc_world.proofs.world.World.asked.Given as goal

abbrev pub invariant-loop-number : goal.invariant-loop-number
invariant-loop-number l = AreAskedTo l.self.up (l.number - 1) l.listed l.centres
