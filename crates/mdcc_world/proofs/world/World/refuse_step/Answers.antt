use Rattle.mdcc_world.proofs.Took.{step-left}
use Rattle.mdcc_world.proofs.world.World.refuse_step.Goals as goal

pub returns-clause-happens : goal.returns-clause-happens
returns-clause-happens c w input made =
    step-left c.args.self.now w c.args.centre input c.args.fault.now made c.args.lines.now c.push_dropped.new.lines c.in_ok-push_dropped.ensures
