use Rattle.std.proofs.Common.{inl}
use Rattle.mdcc_world.proofs.world.World.apply_step.Goals as goal

pub returns-in-None-clause-happens : goal.returns-in-None-clause-happens
returns-in-None-clause-happens c w input made = c.commit_step.ensures.happens w input made (inl c.in-None.is)
