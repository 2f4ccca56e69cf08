use Rattle.std.proofs.Common.{refl}
use Rattle.mdcc_node.proofs.Planned.{acts-plan, unless-any}
use Rattle.mdcc_node.proofs.Standing.{memory_always}
use Rattle.mdcc_node.specs.StepPlans.{unless_refused}
use Rattle.mdcc_def_rules.specs.TickRules.{tick_step}
use Rattle.mdcc_node.proofs.node.Node.act_on.Goals as goal
use Rattle.mdcc_def_rules.specs.Here.{here}

pub returns-in-Tick-clause-follows : goal.returns-in-Tick-clause-follows
returns-in-Tick-clause-follows g c = record {
  answer = λ cluster me facts volatile known.
      rw (c.in-Tick.is, c.requires.blank)
      (acts-plan (tick_step (here cluster me facts) volatile) c.tick.new.sends c.tick.result refl refl
      (rw c.requires.blank at (c.tick.ensures.answer cluster me facts volatile known)));
  left = λ cluster me facts volatile known.
      rw c.in-Tick.is (unless-any c.tick.result c.tick.new.sends _ _ (c.tick.ensures.left cluster me facts volatile known));
  memory = λ facts store. memory_always (unless_refused c.tick.result _) _ (rw c.tick.ensures.store store);
}
