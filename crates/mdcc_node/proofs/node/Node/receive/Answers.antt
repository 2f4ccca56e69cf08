use Rattle.std.proofs.Common.{◌≡◌, List, subst, true}
use Rattle.mdcc_base.specs.Unless.{GivesUnless}
use Rattle.mdcc_def_messages.specs.declared.facts.Fact.{Fact}
use Rattle.mdcc_node.proofs.Ending.{ends}
use Rattle.mdcc_node.proofs.Led.{residual}
use Rattle.mdcc_node.proofs.Planned.{fault-given, fault-left, memory-left, plan-fits, plan-given, plan-left}
use Rattle.mdcc_node.proofs.Standing.{memory_always}
use Rattle.mdcc_node.specs.StepPlans.{unless_refused, volatile_kept}
use Rattle.mdcc_node.specs.StepAnswers.{is_step_memory, if_plan_added}
use Rattle.mdcc_option.specs.declared.cluster.Cluster.{Cluster}
use Rattle.mdcc_def_protocol.specs.Belongs.{is_centre}
use Rattle.mdcc_def_rules.specs.Node.{message_step}
use Rattle.mdcc_theorem_node_steps.proofs.Shortness.{brought-fits}
use Rattle.mdcc_node.proofs.node.Node.receive.Goals as goal
use Rattle.mdcc_def_rules.specs.Here.{here}

pub add_planned-requires-clause-fits : goal.add_planned-requires-clause-fits
add_planned-requires-clause-fits g c =
    let runs = c.requires.running in
    let from = c.args.from in
    let message = c.args.message.now in
    let centre : is_centre runs.cluster from ≡ true = subst (λ (cluster : Cluster). is_centre cluster from ≡ true) runs.itself.of c.requires.centre in
    plan-fits c.take.new.step (message_step (here runs.cluster runs.me runs.facts) runs.volatile from message)
    (c.in_ok-take.ensures.plan.answer runs.cluster runs.me runs.facts runs.volatile runs.itself)
    (λ step fact made is. brought-fits runs.cluster runs.me runs.facts runs.volatile from message step fact c.requires.short runs.kept centre c.requires.message made is)

pub returns-clause-does : goal.returns-clause-does
returns-clause-does g c =
    let stands = g.S.FactStore.stands in
    let cells = g.S.FactStore.cells c.args.self.now.store in
    let mid = c.take.new.self in
    let plan = c.take.new.step in
    let same : mid.store ≡ c.args.self.now.store = c.in_ok-take.ensures.plan.store in
    let given : (facts : List Fact) → stands c.args.self.now.store facts
    → GivesUnless is_step_memory (unless_refused c.add_planned.result c.add_planned.new.step) (if_plan_added cells facts plan plan.fact) =
    λ facts store. subst (λ (held : g.row.S.Denot). GivesUnless is_step_memory (unless_refused c.add_planned.result c.add_planned.new.step) (if_plan_added (g.S.FactStore.cells held) facts plan plan.fact)) same
    (c.add_planned.ensures.answer facts (rw same store)) in
    record {
      answer = λ cluster me facts volatile known.
          rw (plan-given cells facts plan (message_step (here cluster me facts) volatile c.args.from c.args.message.now) (c.in_ok-take.ensures.plan.answer cluster me facts volatile known))
          (given facts known.store);
      left = λ cluster me facts volatile known.
          let expected = message_step (here cluster me facts) volatile c.args.from c.args.message.now in
          let now = c.in_ok-take.ensures.plan.left cluster me facts volatile known in
          plan-left stands c.add_planned.new.self cluster me facts volatile cells plan expected c.add_planned.result c.add_planned.new.step
          (c.in_ok-take.ensures.plan.answer cluster me facts volatile known)
          (ends volatile cluster me facts c.args.from c.args.message.now)
          (given facts known.store)
          (c.add_planned.ensures.ok cluster me facts (volatile_kept volatile expected) now)
          (c.add_planned.ensures.err cluster me facts (volatile_kept volatile expected) now);
      memory = λ facts store.
          memory-left c.add_planned.result c.add_planned.new.step (stands c.add_planned.new.self.store facts) (c.add_planned.ensures.left facts (rw same store));
    }

pub returns-in_err-take-clause-does : goal.returns-in_err-take-clause-does
returns-in_err-take-clause-does g c =
    let stands = g.S.FactStore.stands in
    let cells = g.S.FactStore.cells c.args.self.now.store in
    let fault = c.in_err-take.field-0.0 in
    let same = residual c.from_residual.result fault c.from_residual.ensures.1 in
    record {
      answer = λ cluster me facts volatile known.
          rw same (fault-given cells facts fault (message_step (here cluster me facts) volatile c.args.from c.args.message.now) (c.in_err-take.ensures.plan.answer cluster me facts volatile known));
      left = λ cluster me facts volatile known.
          rw same (fault-left stands c.take.new.self cluster me facts volatile cells fault (message_step (here cluster me facts) volatile c.args.from c.args.message.now)
          (c.in_err-take.ensures.plan.answer cluster me facts volatile known) (c.in_err-take.ensures.plan.left cluster me facts volatile known));
      memory = λ facts store. memory_always (unless_refused c.from_residual.result _) _ (rw c.in_err-take.ensures.plan.store store);
    }
