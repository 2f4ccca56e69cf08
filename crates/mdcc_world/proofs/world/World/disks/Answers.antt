use Rattle.mdcc_world.proofs.Crashed.{disks-show}
use Rattle.mdcc_world.proofs.world.World.disks.Goals as goal

pub returns : goal.returns
returns c w stands = rw c.disks.ensures (disks-show c.args.self.now w stands.like)
