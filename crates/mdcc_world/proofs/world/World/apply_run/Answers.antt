use Rattle.std.proofs.Common.{Result, subst}
use Rattle.mdcc_node.specs.StepPlans.{unless_refused}
use Rattle.mdcc_def_rules.specs.declared.node.StepFault.{StepFault}
use Rattle.mdcc_world.specs.NodeRuns.{HasRun}
use Rattle.mdcc_world.proofs.world.World.apply_run.Goals as goal

pub returns-in-Ok-clause-happens : goal.returns-in-Ok-clause-happens
returns-in-Ok-clause-happens c w input made =
    c.apply_step.ensures.happens w input (subst (λ (r : Result (Unit {0}) StepFault). HasRun c.args.self.now w c.args.centre input (unless_refused r c.args.step.now)) c.in-Ok.is made)

pub returns-in-Err-clause-happens : goal.returns-in-Err-clause-happens
returns-in-Err-clause-happens c w input made =
    c.refuse_step.ensures.happens w input (subst (λ (r : Result (Unit {0}) StepFault). HasRun c.args.self.now w c.args.centre input (unless_refused r c.args.step.now)) c.in-Err.is made)
