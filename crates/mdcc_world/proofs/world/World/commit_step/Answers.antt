use Rattle.mdcc_world.proofs.Limits.{step-sends}
use Rattle.mdcc_world.proofs.world.World.commit_step.Goals as goal

pub write-requires : goal.write-requires
write-requires c = rw c.as_slice.ensures (step-sends c.args.self.now c.requires.some.0 c.args.centre c.requires.some.1 c.args.step.now c.requires.some.2)
