use Rattle.std.proofs.Common.{◌∙◌, Ok, inr, sym}
use Rattle.mdcc_world.proofs.Limits.{log-there}
use Rattle.mdcc_world.proofs.world.World.apply_with_fact.Goals as goal

pub striking_at-requires : goal.striking_at-requires
striking_at-requires c = record {
  within = (let made = c.requires.some.2 in log-there c.args.self.now c.requires.some.0 c.args.centre made.before.centre made.before.logs);
}

pub stop_step-requires-clause-strikes : goal.stop_step-requires-clause-strikes
stop_step-requires-clause-strikes c w input made = sym (c.striking_at.ensures w input (Ok c.args.step.now) made) ∙ c.in-Some.is

pub returns-in-None-clause-happens : goal.returns-in-None-clause-happens
returns-in-None-clause-happens c w input made =
    c.commit_step.ensures.happens w input made (inr (sym (c.striking_at.ensures w input (Ok c.args.step.now) made) ∙ c.in-None.is))
